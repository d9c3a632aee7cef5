-- Refusals that leave a content failed.
use Rattle.std.proofs.Common.{◌≡◌, Bool, true, false, List, ℕ, Result, Ok, Err, OnErr, subst}
use denote.Ref.{MutBor}
use Rattle.bcder_content.specs.bcder_tree.Tags.{TagValue}
use Rattle.bcder_content.specs.bcder_tree.Tree.{Tree}
use Rattle.bcder_content.specs.bcder_source.declared.error.DecodeError.{DecodeError}
use Rattle.bcder_primitive.specs.declared.primitive.Primitive.{Primitive}
use Rattle.bcder_primitive.specs.Sliced.{Reader}
use Rattle.bcder_content.specs.declared.constructed.Constructed.{Constructed}
use Rattle.bcder_content.specs.declared.content.Content.{Content}
use Rattle.bcder_content.specs.Contents.{ValuesLeft}
use Rattle.bcder_content.specs.Either.{left_of, form_in, OctetsRun, RunsOctets, ReadsInAs}
use Rattle.bcder_content.specs.Here.{here, plain}

-- Why a content was refused doesn't hang on what is left of it then.
pub refused_still : {A B E : Type 0} (f : A → B) (P : Tree → B → Type 0) (form : Bool) (tag : TagValue) (v w u : ValuesLeft) (e : DecodeError E) → ReadsInAs {A = A} {B = B} {E = E} f P form tag v (Err e) w → ReadsInAs {A = A} {B = B} {E = E} f P form tag v (Err e) u
refused_still f P true tag v w u e h = h
refused_still f P false tag v w u e h = h

-- Each refusal by the closure leaves its content failed.
pub record FailsEach {F S T E : Type 0} (rest : S → List ℕ) (g : Reader F (Primitive S) T E) (op : F) : Type 0 where
  pub each : (p q : MutBor (Primitive S)) (r : Result T (DecodeError E)) → g.post op (p, tt) (r, (q, tt)) → OnErr r ((plain rest q.now).failed ≡ true)

run_fails : {F S T E : Type 0} {rest : S → List ℕ} {g : Reader F (Primitive S) T E} {op : F} (form : Bool) (v w : Constructed S) (r : Result T (DecodeError E)) → FailsEach rest g op → OctetsRun rest g op form v r w → OnErr r ((here rest w).failed ≡ true)
run_fails {S = S} {rest = rest} false v w r fails run = subst (λ (p : Primitive S). OnErr r ((plain rest p).failed ≡ true)) run.1.leaves (fails.each run.1.shown run.1.left r run.1.met)
run_fails true v w (Ok x) fails run = absurd run.0
run_fails true v w (Err e) fails run = run.1

-- So does each by a content of either form.
pub octets_fail : {F S T E : Type 0} {rest : S → List ℕ} {g : Reader F (Primitive S) T E} {op : F} {c d : Content S} (r : Result T (DecodeError E)) → FailsEach rest g op → RunsOctets rest g op c r d → OnErr r ((left_of rest d).failed ≡ true)
octets_fail {c = c} {d} r fails h = run_fails (form_in c) c.values.now d.values.now r fails h.runs
