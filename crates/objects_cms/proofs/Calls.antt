-- What each call of a closure says is so of the call that read a source.
use Rattle.std.proofs.Common.{List, Result, subst, ℕ}
use denote.Ref.{MutBor}
use Rattle.objects_cms.specs.bcder_source.declared.error.DecodeError.{DecodeError}
use Rattle.objects_cms.specs.bcder_content.declared.constructed.Constructed.{Constructed}
use Rattle.objects_cms.specs.bcder_content.Contents.{ValuesLeft}
use Rattle.objects_cms.specs.bcder_content.Here.{here}
use Rattle.objects_cms.specs.bcder_content.ClosureReads.{ClosureReadsIn, Reader}

-- P holds of what was left before each call, of its answer, and of what it left.
pub record EachCall {F S T E : Type 0} (rest : S → List ℕ) (g : Reader F (Constructed S) T E) (op : F)
    (P : ValuesLeft → Result T (DecodeError E) → ValuesLeft → Type 0) : Type 0 where
  pub each : (p q : MutBor (Constructed S)) (r : Result T (DecodeError E)) → g.post op (p, tt) (r, (q, tt)) → P (here rest p.now) r (here rest q.now)

pub call_in : {F S T E : Type 0} {rest : S → List ℕ} {g : Reader F (Constructed S) T E} {op : F} {P : ValuesLeft → Result T (DecodeError E) → ValuesLeft → Type 0}
    {v end : ValuesLeft} {r : Result T (DecodeError E)} → EachCall rest g op P → ClosureReadsIn rest g op v r end → P v r end
call_in {S = S} {rest = rest} {P = P} {v = v} {r = r} each on =
    let at = each.each on.met.shown on.met.left r on.met.met in
    let given = subst (λ (w : Constructed S). P (here rest w) r (here rest on.met.left.now)) on.met.shows at in
    let stop = subst (λ (w : Constructed S). P (here rest on.given) r (here rest w)) on.met.leaves given in
    subst (λ (w : ValuesLeft). P v r w) on.ends (subst (λ (w : ValuesLeft). P w r (here rest on.left)) on.starts stop)
