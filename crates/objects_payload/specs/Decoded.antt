-- What stands in front of octets, as a call answers it.
use Rattle.std.specs.Prelude.{ℕ, List, Result, Ok, Err}
use Rattle.objects_payload.specs.bcder_tree.Tree.{Tree}
use Rattle.objects_payload.specs.bcder_source.Errors.{OnContent}
use Rattle.objects_payload.specs.bcder_source.declared.error.DecodeError.{DecodeError}
use Rattle.objects_payload.specs.bcder_content.Texts.{ReadsFront}

-- The value of Q in DER in front of the octets, or there is none.
abbrev pub DecodesFront : {A E : Type 0} → (Tree → A → Type 0) → List ℕ → Result A (DecodeError E)
    → Type 0
DecodesFront Q octets (Ok x) = ReadsFront Q octets x
DecodesFront {A} Q octets (Err e) = OnContent e ((x : A) → ReadsFront Q octets x → ⊥)
