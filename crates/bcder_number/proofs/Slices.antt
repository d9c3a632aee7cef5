-- A content of just some octets, read as a whole.
use Rattle.std.proofs.Common.{◌≡◌, ℕ, ◌<◌, List, [], length, take, Option, Some, None, false, refl, sym, ap, ◌∙◌, subst, arith, append-nil}
use Rattle.std.proofs.Math.Seq.{take-length}
use Rattle.bcder_number.specs.bcder_tree.declared.mode.Mode.{Mode}
use Rattle.bcder_number.specs.bcder_source.Errors.{OnContent}
use Rattle.bcder_number.specs.bcder_source.Views.{more_limit}
use Rattle.bcder_number.specs.bcder_source.declared.error.DecodeError.{DecodeError}
use Rattle.bcder_number.specs.bcder_source.declared.error.DecodeError.TheVariants.{Content, Source, Memory}
use Rattle.bcder_number.specs.bcder_primitive.Plain.{OctetsLeft, WholeOctets, LacksOctets, GivesOctets}
use Rattle.bcder_number.specs.bcder_primitive.Sliced.{content_of}
use Rattle.bcder_number.proofs.of_bcder_primitive.Primitives.{whole_is}

whole_slice : (m : Mode) (v : List ℕ) → WholeOctets (content_of m v) v
whole_slice m v = record {
  behind = record { mode = m; failed = false; rest = []; limit = Some 0 };
  goes = record {
    moved = record { rest = sym (append-nil v); limit = ap (λ (z : ℕ). Some z) (omega arith) };
    mode = refl;
    before = refl;
    behind = refl;
  };
  drained = record { sound = refl; ends = refl };
}

-- Octets that lack the grammar aren't of it.
pub slice_lacks : {A : Type 0} (P : List ℕ → A → Type 0) {m : Mode} {v : List ℕ} {p : OctetsLeft} → p ≡ content_of m v → LacksOctets P p → (x : A) → P v x → ⊥
slice_lacks {A} P {m} {v} {p} e l x is = l.none v x is (subst (λ (z : OctetsLeft). WholeOctets z v) (sym e) (whole_slice m v))

-- Why a slice is refused.
pub refused_lacks : {E F : Type 0} (e : DecodeError E) → (E → ⊥) → OnContent e F → (e ≡ Memory → ⊥) → F
refused_lacks (Content error pos) none h no_memory = h
refused_lacks (Source error) none h no_memory = absurd (none error)
refused_lacks Memory none h no_memory = absurd (no_memory refl)

ended : (l : Option ℕ) (n k r : ℕ) → Some n ≡ more_limit k l → ((m : ℕ) → l ≡ Some m → r ≡ m) → r ≡ 0 → l ≡ Some 0
ended None n k r e told zero_left = absurd cc
ended (Some m) n k r e told zero_left = ap (λ (z : ℕ). Some z) (sym (told m refl) ∙ zero_left)

-- Octets that were read to their end are of the grammar,
pub slice_gives : {A : Type 0} (P : List ℕ → A → Type 0) {m : Mode} {v : List ℕ} {p new : OctetsLeft} {x : A} {r : ℕ} → p ≡ content_of m v → GivesOctets P p x new
    → ((n : ℕ) → new.limit ≡ Some n → r ≡ n) → r ≡ 0 → P v x
slice_gives {A} P {m} {v} {p} {new} {x} {r} e g told zero_left =
    let limit : p.limit ≡ Some (length v) = ap (λ (z : OctetsLeft). z.limit) e in
    let ends : new.limit ≡ Some 0 = ended new.limit (length v) (length g.text) r (sym limit ∙ g.goes.moved.limit) told zero_left in
    let whole : WholeOctets p g.text = record { behind = new; goes = g.goes; drained = record { sound = g.goes.behind; ends = ends } } in
    let same : g.text ≡ v = (whole_is limit whole).0 ∙ ap (λ (z : OctetsLeft). take (length v) z.rest) e ∙ take-length v in
    subst (λ (z : List ℕ). P z x) same g.is

-- and those that go on after it aren't.
pub slice_goes_on : {A : Type 0} (P : List ℕ → A → Type 0) {m : Mode} {v : List ℕ} {p new : OctetsLeft} {x : A} {r : ℕ} → p ≡ content_of m v → GivesOctets P p x new
    → ((n : ℕ) → new.limit ≡ Some n → r ≡ n) → 0 < r → (y : A) → P v y → ⊥
slice_goes_on {A} P {m} {v} {p} {new} {x} {r} e g told left y is =
    slice_lacks P e (g.only (λ d. let h : r ≡ 0 = told 0 d.ends in omega arith)) y is
