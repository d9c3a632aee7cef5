-- Fronts of octets that are UTF-8.
use Rattle.std.proofs.Common.{◌≡◌, ℕ, ◌≤◌, ◌+◌, inl, inr, min, true, List, [], ◌∷◌, ◌++◌, length, take, drop, sym, ap, append_assoc, take-append-drop, ◌∙◌, subst, arith}
use Rattle.std.specs.Prelude.{◌↔◌, encode_utf8, IsUtf8, All, chars}
use Rattle.std.specs.Char.{len_utf8}
use Rattle.std.specs.Str.{all_scalars, IsValidUpTo}
use lib.Utf8.{scalar}
use Rattle.std.proofs.lemmas.Bool.{and_parts, cases_lt}
use Rattle.std.proofs.lemmas.List.{length-append, length-take-le, take-take}
use Rattle.std.proofs.lemmas.Str.{cons_from_encodes, length-encode, len_utf8_bounds, IsUtf8-encode, encodes-chars, scalars-chars}
use Rattle.std.proofs.lemmas.List.Elements.{All-nil, All-cons}
use Rattle.std.proofs.Math.Seq.{take-append_seam}
use Rattle.bcder.specs.StringLaws.{all_are_scalars, joined}
use Rattle.bcder.specs.Sets.{IsUnicode}
use Rattle.bcder.specs.Texts.{Starts, Tells, IsText}

-- A character stands in front of octets where it stands in front of their front.
pub char_found : (octets front rest : List ℕ) (few c : ℕ) → IsUtf8 front → front ≡ take (length front) (take few octets) → front ≡ encode_utf8 c ++ rest → (behind : List ℕ) × Starts IsUnicode encode_utf8 octets c behind
char_found octets front rest few c u f e =
    let all = cons_from_encodes u.0 rest c (u.1.1 ∙ e) in
    let k = length front in
    let whole : octets ≡ encode_utf8 c ++ (rest ++ (drop k (take few octets) ++ drop few octets)) =
    sym (take-append-drop few octets)
    ∙ ap (λ (l : List ℕ). l ++ drop few octets) (sym (take-append-drop k (take few octets)) ∙ ap (λ (l : List ℕ). l ++ drop k (take few octets)) (sym f ∙ e) ∙ append_assoc (encode_utf8 c) rest (drop k (take few octets)))
    ∙ append_assoc (encode_utf8 c) (rest ++ drop k (take few octets)) (drop few octets)
    ∙ ap (λ (l : List ℕ). encode_utf8 c ++ l) (append_assoc rest (drop k (take few octets)) (drop few octets)) in
    (rest ++ (drop k (take few octets) ++ drop few octets), record { has = first_scalar c all.0 u.0 u.1.0 all.1; spelled = whole })
  where
    first_scalar : (c : ℕ) (es cs : List ℕ) → all_scalars cs ≡ true → cs ≡ c ∷ es → IsUnicode c
    first_scalar c es cs s e = (and_parts (scalar c) (all_scalars es) (ap all_scalars (sym e) ∙ s)).0

-- Where no front of the first four octets is UTF-8, no character stands in front.
pub char_none : (octets front : List ℕ) (few : ℕ) → few ≡ min (length octets) 4 → length front ≡ 0 → ((n : ℕ) → n ≤ length (take few octets) → IsUtf8 (take n (take few octets)) → n ≤ length front) → (c : ℕ) (behind : List ℕ) → Starts IsUnicode encode_utf8 octets c behind → ⊥
char_none octets front few is empty longest c behind s =
    let k = length (encode_utf8 c) in
    let bounds = len_utf8_bounds c in
    let long : length octets ≡ k + length behind = ap length s.spelled ∙ length-append (encode_utf8 c) behind in
    let wide : k ≡ len_utf8 c = length-encode c in
    let within : k ≤ few = omega (arith, bounds.0, bounds.1) in
    let have : length (take few octets) ≡ few = length-take-le few octets (omega arith) in
    let same : take k (take few octets) ≡ encode_utf8 c = take-take k few octets within ∙ ap (take k) s.spelled ∙ take-append_seam (encode_utf8 c) behind in
    let most : k ≤ length front = longest k (omega arith) (subst IsUtf8 (sym same) (IsUtf8-encode c s.has)) in
    omega (arith, bounds.0)

scalars_all : (cs : List ℕ) → all_scalars cs ≡ true → All IsUnicode cs
scalars_all [] e = All-nil IsUnicode
scalars_all (c ∷ cs) e =
    let p = and_parts (scalar c) (all_scalars cs) e in
    All-cons IsUnicode c cs p.0 (scalars_all cs p.1)

-- The characters of a text in UTF-8 are those that its octets tell.
pub utf8_tells : (octets : List ℕ) → IsUtf8 octets → Tells IsUnicode encode_utf8 octets (chars octets)
utf8_tells octets u = record { has = scalars_all (chars octets) (scalars-chars octets u); spelled = joined (chars octets) ∙ encodes-chars octets u }

-- The texts are the octets that are UTF-8.
pub utf8_text : (octets : List ℕ) → IsText IsUnicode encode_utf8 octets ↔ IsUtf8 octets
utf8_text octets = (
  (λ t. (t.chars, (all_are_scalars t.chars t.tells.has, sym (joined t.chars) ∙ t.tells.spelled))),
  (λ u. record { chars = chars octets; tells = utf8_tells octets u }),
)

-- A front that is valid as far as octets go is the longest.
pub longest_valid : (octets front : List ℕ) (n : ℕ) → IsValidUpTo octets n → front ≡ take n octets → (m : ℕ) → m ≤ length octets → IsUtf8 (take m octets) → m ≤ length front
longest_valid octets front n valid e m within u =
    let short = valid.short in
    let long : length front ≡ n = ap length e ∙ length-take-le n octets (omega arith) in
    elim (cases_lt n m) [
      | inl h ↦ absurd (valid.longest m h u)
      | inr h ↦ omega arith
    ]
