-- A constructed value that is written in DER has octets that can be counted (X.690 8.1.2, 8.1.3).
use Rattle.std.proofs.Common.{ℕ, ◌<◌, ◌≤◌, ◌^◌, Bool, true, List, [], ◌∷◌, length, ap, arith, length-append}
use Rattle.certs_x509.specs.bcder_tree.declared.mode.Mode.TheVariants.{Der}
use Rattle.certs_x509.specs.bcder_tree.Octets.{IsHigh, IsIdentifier, IsLength}
use Rattle.certs_x509.specs.bcder_tree.Tags.{TagValue}
use Rattle.certs_x509.specs.bcder_tree.Tree.{definite, indefinite}
use Rattle.certs_x509.specs.bcder_primitive.Encoded.{WritesWrapped}

high_few : (octets : List ℕ) (n : ℕ) → IsHigh octets n → length octets ≤ 3
high_few [] n h = absurd h
high_few (b ∷ []) n h = omega arith
high_few (b ∷ c ∷ []) n h = omega arith
high_few (b ∷ c ∷ d ∷ []) n h = omega arith
high_few (b ∷ c ∷ d ∷ e ∷ v) n h = absurd h

identifier_few : (form : Bool) (t : TagValue) (octets : List ℕ) → IsIdentifier octets form t → length octets ≤ 4
identifier_few form t [] h = absurd h
identifier_few form t (a ∷ []) h = omega arith
identifier_few form t (a ∷ b ∷ v) h = let few = high_few (b ∷ v) t.number h.1 in omega (arith, few)

length_few : (size : List ℕ) (n : ℕ) → IsLength Der size n → length size ≤ 5
length_few [] n h = absurd h
length_few (a ∷ []) n h = omega arith
length_few (a ∷ b ∷ []) n h = omega arith
length_few (a ∷ b ∷ c ∷ []) n h = omega arith
length_few (a ∷ b ∷ c ∷ d ∷ []) n h = omega arith
length_few (a ∷ b ∷ c ∷ d ∷ e ∷ []) n h = omega arith
length_few (a ∷ b ∷ c ∷ d ∷ e ∷ f ∷ v) n h = absurd h

pub few_octets : {t : TagValue} {P : List ℕ → Type 0} {text : List ℕ} → WritesWrapped Der t P text → length text < 2 ^ 64
few_octets {t} {text = text} w = elim w.spelled [
  | definite d header h e ↦
      let i : length h.identifier ≤ 4 = identifier_few true t h.identifier h.identifier_is in
      let l : length h.size ≤ 5 = length_few h.size (length w.content) h.size_is in
      omega (arith, w.few, i, l, ap length h.whole, length-append h.identifier h.size, ap length e, length-append header w.content)
  | indefinite d identifier g h e ↦ absurd d
]
