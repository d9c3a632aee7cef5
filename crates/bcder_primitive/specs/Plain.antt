-- The octets of primitive values that are left, and exact readers of them.
use Rattle.std.specs.Prelude.{◌≡◌, ◌⊎◌, ℕ, Bool, false, List, Result, Ok, Err, Option, Some}
use Rattle.bcder_source.specs.Errors.{OnContent}
use Rattle.bcder_source.specs.declared.pos.Pos.{Pos}
use Rattle.bcder_source.specs.declared.error.ContentError.TheVariants.{ExpectedInteger}
use Rattle.bcder_source.specs.declared.error.DecodeError.{DecodeError}
use Rattle.bcder_source.specs.declared.error.DecodeError.TheVariants.{Content}
use Rattle.bcder_source.specs.Views.{View, Moved}
use Rattle.bcder_primitive.specs.bcder_tree.declared.mode.Mode.{Mode}
use Rattle.bcder_primitive.specs.declared.primitive.Primitive.{Primitive}

-- What is left of the content octets of a primitive value: the mode, whether a read of it was refused, the rest of the
-- source, and how many octets of it may be read.
pub record OctetsLeft : Type 0 where
  pub mode : Mode
  pub failed : Bool
  pub rest : List ℕ
  pub limit : Option ℕ

-- What is left of a primitive content, by the rest of its source.
abbrev pub plain : {S : Type 0} → (S → List ℕ) → Primitive S → OctetsLeft
plain rest p =
    record { mode = p.mode; failed = p.failed; rest = rest p.source.source; limit = p.source.limit }

-- The octets of a primitive content.
abbrev pub octets_in : OctetsLeft → View
octets_in p = record { rest = p.rest; limit = p.limit }

-- These octets were read, and no read was refused; the mode is as it was.
pub record GoesBy (old : OctetsLeft) (text : List ℕ) (new : OctetsLeft) : Type 0 where
  pub moved : Moved (octets_in old) text (octets_in new)
  pub mode : new.mode ≡ old.mode
  pub before : old.failed ≡ false
  pub behind : new.failed ≡ false

-- No octet is left, and no read was refused.
pub record Drained (p : OctetsLeft) : Type 0 where
  pub sound : p.failed ≡ false
  pub ends : p.limit ≡ Some 0

-- All that is left of the content are these octets.
pub record WholeOctets (p : OctetsLeft) (text : List ℕ) : Type 0 where
  pub behind : OctetsLeft
  pub goes : GoesBy p text behind
  pub drained : Drained behind

-- What is left of the content isn't of the grammar.
pub record LacksOctets {A : Type 0} (P : List ℕ → A → Type 0) (old : OctetsLeft) : Type 0 where
  pub none : (text : List ℕ) (x : A) → P text x → WholeOctets old text → ⊥

-- Octets of the grammar were read; where the content goes on after them, as a whole it isn't of the grammar.
pub record GivesOctets {A : Type 0} (P : List ℕ → A → Type 0) (old : OctetsLeft) (x : A)
    (new : OctetsLeft) : Type 0 where
  pub text : List ℕ
  pub is : P text x
  pub goes : GoesBy old text new
  pub only : (Drained new → ⊥) → LacksOctets P old

-- A reader of a whole primitive content, whose end is tested afterwards, by what its answer means.
abbrev pub ReadsOctetsAs : {A B E : Type 0} → (A → B) → (List ℕ → B → Type 0) → OctetsLeft
    → Result A (DecodeError E) → OctetsLeft → Type 0
ReadsOctetsAs f P old (Ok x) new = GivesOctets P old (f x) new
ReadsOctetsAs f P old (Err e) new = OnContent e (LacksOctets P old)

-- The refusal names the number that was expected, unless what is left of the content is no number of the grammar.
abbrev pub NamesOther : {E : Type 0} → (List ℕ → ℕ → Type 0) → OctetsLeft → ℕ → DecodeError E
    → Type 0
NamesOther P old n e =
    OnContent e (LacksOctets P old) ⊎ ((pos : Pos) × (e ≡ Content (ExpectedInteger n) pos))
