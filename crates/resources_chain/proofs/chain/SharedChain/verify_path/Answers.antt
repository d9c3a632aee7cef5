use Rattle.std.proofs.Common.{map, take, drop, suc, sym, subst}
use Rattle.std.proofs.lemmas.Result.{err_from_is_err_and}
use Rattle.resources_chain.specs.Sets.{InRuns}
use Rattle.resources_chain.specs.declared.claims.Overclaim.{Overclaim}
use Rattle.resources_chain.specs.Claims.{Path, Choice}
use Rattle.resources_chain.proofs.ClaimLemmas.{Along, along_start, along_step, along_refused, took_more, cut_at}
use Rattle.resources_chain.proofs.chain.SharedChain.verify_path.Goals as goal

pub loop-claim-init : goal.loop-claim-init
loop-claim-init g c = along_start c.args.self.now c.in_ok-held.ensures.cases c.in_ok-held.ensures.maximal

pub returns-in_err-held-2-clause-refused : goal.returns-in_err-held-2-clause-refused
returns-in_err-held-2-clause-refused g c =
    let p = err_from_is_err_and c.from_residual-in_err-held-2.result c.from_residual-in_err-held-2.ensures.1 in
    let xs = c.args.path.now in
    let i = c.loop-claim.claim-index in
    let x = c.loop-claim-item.result in
    let seen : g.row.C.Denot × Overclaim → Choice × Overclaim = λ claim. (g.C.Claim.choice claim.0, claim.1) in
    rw (p.1, p.2)
    (along_refused (InRuns c.args.self.now) (map seen (take i xs)) (seen x) (map seen (drop (suc i) xs)) c.in_err-held-2.field-0.0 (cut_at seen xs i x c.loop-claim-test.true c.loop-claim-item.is) c.loop-claim.invariant c.in_err-held-2.ensures.refused)

pub loop-claim-preserved : goal.loop-claim-preserved
loop-claim-preserved g c =
    let xs = c.args.path.now in
    let i = c.loop-claim.claim-index in
    let x = c.loop-claim-item.result in
    let seen : g.row.C.Denot × Overclaim → Choice × Overclaim = λ claim. (g.C.Claim.choice claim.0, claim.1) in
    subst (λ (front : Path). Along (InRuns c.args.self.now) front c.in_ok-held-2.held) (sym (took_more seen xs i x c.loop-claim-test.true c.loop-claim-item.is))
    (along_step (InRuns c.args.self.now) (map seen (take i xs)) (seen x) c.loop-claim.invariant c.in_ok-held-2.ensures.fits c.in_ok-held-2.ensures.held)
