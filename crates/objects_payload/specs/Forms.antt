-- Grammars of which one reads all that another reads: of a value, of values, of octets, of a list.
use Rattle.objects_payload.specs.bcder_tree.declared.mode.Mode.{Mode}
use Rattle.objects_payload.specs.bcder_tree.declared.mode.Mode.TheVariants.{Ber, Der}

-- What P reads R reads too, and what it means by P tells what it means by R.
pub record Carries {S A B : Type 0} (f : A → B) (P : S → A → Type 0) (R : S → B → Type 0)
    : Type 0 where
  pub carried : (s : S) (x : A) → P s x → R s (f x)

-- With the same meaning.
abbrev pub Within : {S A : Type 0} → (S → A → Type 0) → (S → A → Type 0) → Type 0
Within P R = Carries (λ x. x) P R

-- A form is kept by BER: what it reads in DER it reads in BER with the same meaning.
abbrev pub KeepsInBer : {S A : Type 0} → (Mode → S → A → Type 0) → Type 0
KeepsInBer form = Within (form Der) (form Ber)
