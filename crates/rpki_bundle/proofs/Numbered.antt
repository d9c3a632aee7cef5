-- What a refusal says of values whose number, or whose flag, is told by a version.
use Rattle.std.proofs.Common.{◌≡◌, ℕ, Bool, List, Option, Result, sym, subst}
use Rattle.std.specs.Prelude.{IfErr}
use Rattle.rpki_bundle.specs.bcder_tree.declared.mode.Mode.{Mode}
use Rattle.rpki_bundle.specs.bcder_tree.declared.mode.Mode.TheVariants.{Der}
use Rattle.rpki_bundle.specs.bcder_tree.Tags.{boolean_tag}
use Rattle.rpki_bundle.specs.bcder_tree.Tree.{Trees}
use Rattle.rpki_bundle.specs.bcder_primitive.Encoded.{IsPlain, WritesPlain}
use Rattle.rpki_bundle.specs.bcder_primitive.Values.{IsBoolean}
use Rattle.rpki_bundle.specs.bcder_primitive.Writing.{CannotWrite, WriteRefused}
use Rattle.rpki_bundle.specs.bcder_primitive.declared.written.error.EncodeError.{EncodeError}
use Rattle.rpki_bundle.specs.declared.version.Version.{Version}
use Rattle.rpki_bundle.specs.declared.version.Version.TheVariants.{One}
use Rattle.rpki_bundle.specs.Bundle.{number_of}
use Rattle.rpki_bundle.specs.Written.{IsFlag, WritesFlag, AreMembers, WritesMembers}

-- A flag that was refused.
pub flag_refused : {T : Type 0} (m : Mode) (v : Version) (relaxed : Bool) (same : Type 0) (old new : Option (List ℕ)) (r : Result T EncodeError) → v ≡ One relaxed
    → IfErr r (WriteRefused (IsPlain boolean_tag (λ c. IsBoolean Der c relaxed)) (WritesPlain m boolean_tag (λ c. IsBoolean Der c relaxed)) same old new)
    → IfErr r (WriteRefused (IsFlag v) (WritesFlag m v) same old new)
flag_refused m v relaxed same old new r e h = subst (λ (w : Version). IfErr r (WriteRefused (IsFlag w) (WritesFlag m w) same old new)) (sym e) h

module _ (v : Version) (text : List ℕ) (depth : ℕ) (A : Trees → Type 0) (P : List ℕ → Type 0) (n : ℕ) (e : n ≡ number_of v) where
  abbrev Are : ℕ → Trees → Type 0
  Are k = AreMembers k v text depth A

  abbrev Writes : ℕ → List ℕ → Type 0
  Writes k = WritesMembers Der k v text depth P

  -- Members that aren't counted,
  pub count_refused : {T : Type 0} (r : Result T EncodeError) → IfErr r (CannotWrite (Are n) (Writes n)) → IfErr r (CannotWrite (Are (number_of v)) (Writes (number_of v)))
  count_refused r h = subst (λ (k : ℕ). IfErr r (CannotWrite (Are k) (Writes k))) e h

  -- and members that aren't written.
  pub write_refused : {T : Type 0} (same : Type 0) (old new : Option (List ℕ)) (r : Result T EncodeError) → IfErr r (WriteRefused (Are n) (Writes n) same old new) → IfErr r (WriteRefused (Are (number_of v)) (Writes (number_of v)) same old new)
  write_refused same old new r h = subst (λ (k : ℕ). IfErr r (WriteRefused (Are k) (Writes k) same old new)) e h
