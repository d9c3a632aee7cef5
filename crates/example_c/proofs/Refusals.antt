-- Octets in memory are refused for what they are alone, where their reading wants no memory.
use Rattle.std.proofs.Common.{◌≢◌, ℕ, List, Result, Ok, Err, IfErr, refl}
use denote.Ref.{MutBor}
use Rattle.std.specs.declared.convert.Infallible.{Infallible}
use Rattle.example_c.specs.bcder_tree.declared.mode.Mode.TheVariants.{Der}
use Rattle.example_c.specs.bcder_tree.Front.{Front}
use Rattle.example_c.specs.bcder_tree.Tree.{Tree}
use Rattle.example_c.specs.bcder_source.Errors.{OnContent}
use Rattle.example_c.specs.bcder_source.Views.{Reading}
use Rattle.example_c.specs.bcder_source.declared.error.DecodeError.{DecodeError}
use Rattle.example_c.specs.bcder_source.declared.error.DecodeError.TheVariants.{Content, Source, Memory}
use Rattle.example_c.specs.bcder_content.declared.constructed.Constructed.{Constructed}
use Rattle.example_c.specs.bcder_content.Captures.{rest_of}
use Rattle.example_c.specs.bcder_content.Contents.{ValuesLeft}
use Rattle.example_c.specs.bcder_content.Memory.{InErr, OnMemory}
use Rattle.example_c.specs.bcder_content.ClosureReads.{Reader}
use Rattle.example_c.specs.Numbers.{IsNumber, Says}

never : Infallible → ⊥
never x = elim x [ ]

-- No call of the closure wants memory.
pub record WantsNone {F T : Type 0} (g : Reader F (Constructed Reading) T Infallible) (op : F) : Type 0 where
  pub each : (p q : MutBor (Constructed Reading)) (r : Result T (DecodeError Infallible)) → g.post op (p, tt) (r, (q, tt)) → IfErr r (λ e. e ≢ Memory)

pub no_want : {F T : Type 0} {g : Reader F (Constructed Reading) T Infallible} {op : F} (v : ValuesLeft) (r : Result T (DecodeError Infallible))
    → WantsNone g op → IfErr r (λ e. OnMemory e (InErr rest_of g op v e)) → IfErr r (λ e. e ≢ Memory)
no_want v (Ok x) w h = tt
no_want v (Err (Content x pos)) w h = λ same. cc
no_want v (Err (Source x)) w h = absurd (never x)
no_want v (Err Memory) w h = absurd (w.each h.ran.met.shown h.ran.met.left (Err Memory) h.ran.met.met refl)

pub refused : {octets : List ℕ} (e : DecodeError Infallible) → OnContent e ((t : Tree) (x : ℕ) (rest : List ℕ) → IsNumber t x → Front Der octets t rest → ⊥)
    → e ≢ Memory → (n : ℕ) → Says octets n → ⊥
refused (Content x pos) h other n s = h s.tree n s.rest s.is s.front
refused (Source x) h other n s = never x
refused Memory h other n s = other refl
