-- Simple values that are read in one way.
use Rattle.std.proofs.Common.{◌≡◌, ℕ, Bool, true, false, List, [], ◌∷◌, refl, sym, ◌∙◌, subst}
use Rattle.bcder_content.specs.bcder_tree.declared.mode.Mode.{Mode}
use Rattle.bcder_content.specs.bcder_tree.declared.mode.Mode.TheVariants.{Ber, Cer, Der}
use Rattle.bcder_primitive.specs.Values.{IsTruth, IsBoolean}
use Rattle.bcder_content.specs.Grammar.{OneOctets, One}
use Rattle.bcder_content.specs.Words.{Itself}

truth_one : (m : Mode) (a : ℕ) (x y : Bool) → IsTruth m a x → IsTruth m a y → x ≡ y
truth_one m a false false p q = refl
truth_one m a true true p q = refl
truth_one Ber a false true p q = absurd (q p)
truth_one Cer a false true p q = let t = sym p ∙ q in absurd cc
truth_one Der a false true p q = let t = sym p ∙ q in absurd cc
truth_one Ber a true false p q = absurd (p q)
truth_one Cer a true false p q = let t = sym p ∙ q in absurd cc
truth_one Der a true false p q = let t = sym p ∙ q in absurd cc

-- A BOOLEAN.
pub boolean_one : (m : Mode) → OneOctets (IsBoolean m)
boolean_one m = record {
  one = λ content x y p q.
      let cells : p.octet ∷ [] ≡ q.octet ∷ [] = sym p.whole ∙ q.whole in
      let same : p.octet ≡ q.octet = cc in
      truth_one m q.octet x y (subst (λ (a : ℕ). IsTruth m a x) same p.truth) q.truth;
}

-- A value of which nothing is kept: NULL, or an identifier that has to be a certain one.
pub unit_one : {P : List ℕ → Unit {0} → Type 0} → OneOctets P
unit_one = record { one = λ content x y p q. refl }

-- A value as it is.
pub itself_one : One Itself
itself_one = record { one = λ t x y p q. sym p.same ∙ q.same }
