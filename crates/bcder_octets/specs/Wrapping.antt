-- Strings whose content is what other values are written as.
use Rattle.std.proofs.Common.{◌≡◌, ◌≢◌, ℕ, List}
use Rattle.bcder_octets.specs.bcder_tree.declared.mode.Mode.{Mode}
use Rattle.bcder_octets.specs.bcder_tree.declared.mode.Mode.TheVariants.{Cer}
use Rattle.bcder_octets.specs.bcder_tree.Tags.{TagValue}
use Rattle.bcder_octets.specs.bcder_tree.Tree.{Trees}
use Rattle.bcder_octets.specs.bcder_primitive.Encoded.{IsPlain, WritesPlain, SpellsSome}
use Rattle.bcder_values.specs.Plains.{plain_spelled, plain_one}
use Rattle.bcder_values.specs.Returns.{ReadAgain}
use Rattle.bcder_octets.specs.Written.{WrittenString}

-- One primitive value whose content is a text of P; none in CER, since it isn't cut into segments (X.690 8.7, 9.2, 10.2).
pub record IsAround (m : Mode) (tag : TagValue) (P : List ℕ → Type 0) (ts : Trees) : Type 0 where
  pub not_cer : m ≢ Cer
  pub plain : IsPlain tag P ts

pub record WritesAround (m : Mode) (tag : TagValue) (P : List ℕ → Type 0) (text : List ℕ)
    : Type 0 where
  pub not_cer : m ≢ Cer
  pub plain : WritesPlain m tag P text

-- That what is written spells the string, and is always the same.
pub around_spelled : (m : Mode) {tag : TagValue} {P : List ℕ → Type 0} (text : List ℕ)
    → WritesAround m tag P text → SpellsSome m (IsAround m tag P) text
around_spelled m text w =
    let s = plain_spelled m text w.plain in
    record
    { trees = s.trees; is = record { not_cer = w.not_cer; plain = s.is }; spelled = s.spelled }

pub around_one : (m : Mode) {tag : TagValue} {P : List ℕ → Type 0}
    → ((a b : List ℕ) → P a → P b → a ≡ b) → (a b : List ℕ) → WritesAround m tag P a
    → WritesAround m tag P b → a ≡ b
around_one m one a b v w = plain_one m one a b v.plain w.plain

-- The values are one string in the mode, and its octets, read from their beginning in a mode of their own, are values of T.
pub record WrapsAgain (m : Mode) (tag : TagValue) (inner : Mode) (T : Trees → Type 0) (ts : Trees)
    : Type 0 where
  pub octets : List ℕ
  pub string : WrittenString m tag octets ts
  pub again : ReadAgain inner T octets
