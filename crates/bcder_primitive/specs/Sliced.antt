-- What a reading of a primitive content by a closure was.
use Rattle.std.specs.Prelude.{◌≡◌, ℕ, false, List, length, Result, Ok, Err, Some}
use Rattle.std.specs.Fn.{Once, FnOnceReturnsAtMut}
use denote.Ref.{MutBor}
use Rattle.bcder_source.specs.Errors.{OnlyOctets}
use Rattle.bcder_source.specs.declared.error.DecodeError.{DecodeError}
use Rattle.bcder_primitive.specs.bcder_tree.declared.mode.Mode.{Mode}
use Rattle.bcder_primitive.specs.declared.primitive.Primitive.{Primitive}
use Rattle.bcder_primitive.specs.Plain.{OctetsLeft, plain, Drained}

-- What is read by a closure: the values of a constructed value, or the octets of a primitive one.
abbrev pub Reader : Type 0 → Type 0 → Type 0 → Type 0 → Type 1
Reader F V T E = Once F (MutBor V × Unit {0}) (Result T (DecodeError E) × (MutBor V × Unit {0}))

-- A content of just these octets.
abbrev pub content_of : Mode → List ℕ → OctetsLeft
content_of m octets =
    record { mode = m; failed = false; rest = octets; limit = Some (length octets) }

-- The closure was given the content, and answered.
pub record ClosureReadsOnOctets {F S T E : Type 0} (rest : S → List ℕ)
    (g : Reader F (Primitive S) T E) (op : F) (given : OctetsLeft) (r : Result T (DecodeError E))
    (end : OctetsLeft) : Type 0 where
  pub begun : Primitive S
  pub left : Primitive S
  pub begins : plain rest begun ≡ given
  pub met : FnOnceReturnsAtMut g op begun r left
  pub ends : plain rest left ≡ end

-- Why a content was refused: the closure refused it, with that very error, or it left octets unread.
pub data SliceRefused {F S T E : Type 0} (rest : S → List ℕ) (g : Reader F (Primitive S) T E)
    (op : F) (given : OctetsLeft) (e : DecodeError E) : Type 0 where
  refused : (end : OctetsLeft) → ClosureReadsOnOctets rest g op given (Err e) end
      → SliceRefused rest g op given e
  goes_on : (end : OctetsLeft) (x : T) → ClosureReadsOnOctets rest g op given (Ok x) end
      → (Drained end → ⊥) → OnlyOctets e (Unit {0}) → SliceRefused rest g op given e

abbrev pub SliceCases : {F S T E : Type 0} → (S → List ℕ) → Reader F (Primitive S) T E → F
    → OctetsLeft → Result T (DecodeError E) → Type 0
SliceCases {F} {S} {T} {E} rest g op given (Ok x) =
    (end : OctetsLeft) × ClosureReadsOnOctets rest g op given (Ok x) end × Drained end
SliceCases {F} {S} {T} {E} rest g op given (Err e) = SliceRefused rest g op given e

-- The closure read the octets, all of them.
pub record ClosureReadsOnSlice {F S T E : Type 0} (rest : S → List ℕ)
    (g : Reader F (Primitive S) T E) (op : F) (given : OctetsLeft) (r : Result T (DecodeError E))
    : Type 0 where
  pub cases : SliceCases rest g op given r
