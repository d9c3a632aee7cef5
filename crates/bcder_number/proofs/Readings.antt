-- What a reading of all octets says of a grammar of them.
use Rattle.std.proofs.Common.{◌≡◌, ℕ, List, refl, sym, ◌∙◌, subst, arith}
use Rattle.std.proofs.lemmas.Int.{ints}
use Rattle.std.specs.Prelude.{ℤ, pos, ◌<ℤ◌}
use Rattle.bcder_number.specs.bcder_primitive.Values.{AnyOctets}
use Rattle.bcder_number.specs.bcder_primitive.Plain.{OctetsLeft, LacksOctets, GivesOctets}
use Rattle.bcder_number.proofs.of_bcder_primitive.Primitives.{other_value}
use Rattle.bcder_number.specs.Integers.{IsInteger, IsNatural, told}
use Rattle.bcder_number.specs.Contents.{told_is, one_number}

-- Where no octets can be read, none of the grammar can.
pub lacks_any : {A : Type 0} (P : List ℕ → A → Type 0) {old : OctetsLeft} → LacksOctets AnyOctets old → LacksOctets P old
lacks_any P l = record { none = λ t x is w. l.none t t (record { same = refl }) w }

-- The octets that were read are of the grammar,
pub given_as : {A : Type 0} (P : List ℕ → A → Type 0) {old new : OctetsLeft} {v : List ℕ} {x : A} → P v x → GivesOctets AnyOctets old v new → GivesOctets P old x new
given_as {A} P {old} {new} {v} {x} is g = record {
  text = g.text;
  is = subst (λ (z : List ℕ). P z x) (sym g.is.same) is;
  goes = g.goes;
  only = λ goes_on. lacks_any P (g.only goes_on);
}

-- or not.
pub lacks_given : {A : Type 0} (P : List ℕ → A → Type 0) {old new : OctetsLeft} {v : List ℕ} → ((x : A) → P v x → ⊥) → GivesOctets AnyOctets old v new → LacksOctets P old
lacks_given {A} P {old} {new} {v} none g = record {
  none = λ t x is w.
      let other : v ≡ t → ⊥ = λ e. none x (subst (λ (z : List ℕ). P z x) (sym e) is) in
      (other_value AnyOctets {y = t} (λ u a b. sym a.same ∙ b.same) other g).none t tt (record { is = record { same = refl } }) w;
}

-- Octets that aren't the content of what they are in two's complement are none of any number.
pub no_integer : (v : List ℕ) → (IsInteger v (told v) → ⊥) → (x : ℤ) → IsInteger v x → ⊥
no_integer v none x is = none (subst (λ (z : ℤ). IsInteger v z) (sym (told_is v x is)) is)

-- A number from 0 up,
pub natural_given : {old new : OctetsLeft} {x : ℤ} {n : ℕ} → x ≡ pos n → GivesOctets IsInteger old x new → GivesOctets IsNatural old n new
natural_given {old} {new} {x} {n} e g = record {
  text = g.text;
  is = subst (λ (z : ℤ). IsInteger g.text z) e g.is;
  goes = g.goes;
  only = λ goes_on. record { none = λ t m is w. (g.only goes_on).none t (pos m) is w };
}

-- or below 0.
pub negative_given : {old new : OctetsLeft} {x : ℤ} → x <ℤ pos 0 → GivesOctets IsInteger old x new → LacksOctets IsNatural old
negative_given {old} {new} {x} below g = record {
  none = λ t n is w.
      let other : x ≡ pos n → ⊥ = λ e. let h : pos n <ℤ pos 0 = subst (λ (z : ℤ). z <ℤ pos 0) e below in omega (arith, ints) in
      (other_value IsInteger {y = pos n} (λ u a b. one_number u x (pos n) a b) other g).none t tt (record { is = is }) w;
}

pub lacks_natural : {old : OctetsLeft} → LacksOctets IsInteger old → LacksOctets IsNatural old
lacks_natural l = record { none = λ t n is w. l.none t (pos n) is w }
