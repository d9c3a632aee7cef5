use Rattle.std.proofs.Common.{ℕ}
use Rattle.objects_rta_valid.specs.certs_basics.Lists.{Each}
use Rattle.objects_rta_valid.specs.certs_extension.Kinds.{As}
use Rattle.objects_rta_valid.specs.resources_chain.Sets.{InRuns}
use Rattle.objects_rta_anchors.specs.Coverage.{KeepsAt}
use Rattle.objects_rta_anchors.proofs.Covering.{along_all, along_more}
use Rattle.objects_rta_anchors.proofs.covered_as.along_as.Goals as goal

pub loop-place-preserved : goal.loop-place-preserved
loop-place-preserved c =
    let W : ℕ → Type 0 = λ (n : ℕ). Each (KeepsAt c.args.certs.now As n) c.args.path × InRuns c.args.held n in
    along_more (KeepsAt c.args.certs.now As) W c.loop-place.path c.next.new.self c.in-Some.place c.loop-place.kept c.in_ok-kept.kept c.in-Some.ensures.steps c.in_ok-kept.ensures c.loop-place.invariant

pub returns : goal.returns
returns c =
    let W : ℕ → Type 0 = λ (n : ℕ). Each (KeepsAt c.args.certs.now As n) c.args.path × InRuns c.args.held n in
    along_all (KeepsAt c.args.certs.now As) W c.loop-place.path c.loop-place.kept c.in_default.ensures.steps.0 c.loop-place.invariant
