use Rattle.std.proofs.Common.{◌≡◌, ◌≤◌, min, max, arith}
use Rattle.resources_chain.proofs.WalkLemmas.{begin_below}
use Rattle.resources_chain.proofs.walk.add_common.Goals as goal

pub add-requires-clause-order : goal.add-requires-clause-order
add-requires-clause-order g c =
    let run = g.B.Block.run in
    let part = run c.in-Some.part in
    let whole : part.first ≤ part.last = (g.met.B.Block.run_within c.in-Some.part).0 in
    let first : part.first ≡ max (run c.args.one.now).first (run c.args.other.now).first = c.in-Some.ensures.0 in
    let last : part.last ≡ min (run c.args.one.now).last (run c.args.other.now).last = c.in-Some.ensures.1 in
    begin_below _ _ c.requires.maximal (λ n i. c.requires.below n part.first i (omega arith, omega arith) (omega arith, omega arith))
