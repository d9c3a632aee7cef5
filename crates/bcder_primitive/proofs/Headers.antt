-- Headers in the fewest octets.
use Rattle.std.proofs.Common.{◌≡◌, ℕ, ◌≤◌, Bool, List, [], ◌∷◌, ◌++◌, length, get_or, take, sym, subst, arith, refl, ap, ◌∙◌}
use Rattle.bcder_primitive.specs.bcder_tree.declared.length.Length.TheVariants.{Definite}
use Rattle.bcder_primitive.specs.bcder_tree.Tags.{TagValue, IsTag}
use Rattle.bcder_primitive.specs.bcder_tree.Octets.{IsIdentifier}
use Rattle.bcder_primitive.specs.bcder_tree.Lengths.{SpellsEverywhere}
use Rattle.bcder_primitive.specs.Headers.{IsHeaderIn}
use Rattle.bcder_primitive.specs.Encoded.{WritesBoth}

pub header_in : {form : Bool} {t : TagValue} {n : ℕ} (i l : List ℕ) → IsTag t → IsIdentifier i form t → SpellsEverywhere (Definite n) l → IsHeaderIn form t n (i ++ l)
header_in i l tag is size = record { identifier = i; size = l; whole = refl; tag = tag; identifier_is = is; size_is = size }

-- One text after the other.
pub header_of : {form : Bool} {t : TagValue} {n : ℕ} (i l : List ℕ) → IsTag t → IsIdentifier i form t → SpellsEverywhere (Definite n) l → (text : List ℕ) → WritesBoth (λ x. x ≡ i) (λ x. x ≡ l) text → IsHeaderIn form t n text
header_of i l tag is size text w = record {
  identifier = i;
  size = l;
  whole = w.whole ∙ ap (λ x. x ++ w.second) w.is_first ∙ ap (λ x. i ++ x) w.is_second;
  tag = tag;
  identifier_is = is;
  size_is = size;
}

-- One octet and one.
two_octets : (i l : List ℕ) → 1 ≤ length i → 1 ≤ length l → get_or i 0 0 ∷ get_or l 0 0 ∷ [] ≡ take 1 i ++ take 1 l
two_octets [] l some other = absurd (omega arith)
two_octets (a ∷ i) [] some other = absurd (omega arith)
two_octets (a ∷ i) (b ∷ l) some other = refl

pub short_header : {form : Bool} {t : TagValue} {n : ℕ} (i l : List ℕ) (p q : ℕ) → 1 ≤ length i → 1 ≤ length l → p ≡ 1 → q ≡ 1 → IsTag t → IsIdentifier (take p i) form t → SpellsEverywhere (Definite n) (take q l)
    → IsHeaderIn form t n (get_or i 0 0 ∷ get_or l 0 0 ∷ [])
short_header {form} {t} {n} i l p q some other one_i one_l tag is size =
    let one : take p i ++ take q l ≡ take 1 i ++ take 1 l = ap (λ k. take k i ++ take q l) one_i ∙ ap (λ k. take 1 i ++ take k l) one_l in
    subst (IsHeaderIn form t n) (one ∙ sym (two_octets i l some other)) (header_in (take p i) (take q l) tag is size)
