-- Texts of ASCII, whose octets are their characters.
use Rattle.std.proofs.Common.{◌≡◌, ℕ, ◌<◌, inl, inr, lit<, get_or, List, length, sym, ◌∙◌, subst}
use Rattle.std.specs.Prelude.{◌↔◌, All, IsAscii, IsUtf8, chars}
use Rattle.std.proofs.lemmas.List.{map-id, get_or_past}
use Rattle.std.proofs.lemmas.Bool.{cases_lt}
use Rattle.std.proofs.lemmas.List.Concat.{flat_map_single}
use Rattle.std.proofs.lemmas.Str.{chars-IsAscii, encodes-chars, encodes-IsAscii}
use Rattle.bcder.specs.Sets.{alone}
use Rattle.bcder.specs.Texts.{Tells, IsText}

-- Characters of a set of ASCII are ASCII.
all_ascii : {M : ℕ → Type 0} → ((c : ℕ) → M c → c < 128) → (cs : List ℕ) → All M cs → IsAscii cs
all_ascii below cs all i =
    elim (cases_lt i (length cs)) [
      | inl h ↦ below (get_or cs i 0) (all i 0 h)
      | inr h ↦ subst (λ (n : ℕ). n < 128) (sym (get_or_past cs i 0 h)) (lit< tt)
    ]

-- Octets of the set are a text, whose characters they are.
pub ascii_tells : {M : ℕ → Type 0} → ((c : ℕ) → M c → c < 128) → (octets : List ℕ) → All M octets → Tells M alone octets (chars octets)
ascii_tells {M} below octets all =
    let same : chars octets ≡ octets = chars-IsAscii octets (all_ascii below octets all) in
    record {
      has = subst (All M) (sym same) all;
      spelled = flat_map_single (λ (x : ℕ). x) (chars octets) ∙ map-id (chars octets) ∙ same;
    }

-- Where the characters are of the set, the octets are.
pub octets_all : {M : ℕ → Type 0} → ((c : ℕ) → M c → c < 128) → (octets : List ℕ) → IsUtf8 octets → All M (chars octets) → All M octets
octets_all {M} below octets u all = subst (All M) (sym (encodes-IsAscii (chars octets) (all_ascii below (chars octets) all)) ∙ encodes-chars octets u) all

-- The texts of a set of ASCII are octets of the set.
pub ascii_text : (M : ℕ → Type 0) (octets : List ℕ) → IsText M alone octets ↔ All M octets
ascii_text M octets = (
  (λ t. subst (All M) (sym (map-id t.chars) ∙ sym (flat_map_single (λ (x : ℕ). x) t.chars) ∙ t.tells.spelled) t.tells.has),
  (λ all. record { chars = octets; tells = record { has = all; spelled = flat_map_single (λ (x : ℕ). x) octets ∙ map-id octets } }),
)
