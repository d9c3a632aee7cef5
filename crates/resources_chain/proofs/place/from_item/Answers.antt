use Rattle.std.proofs.Common.{◌≡◌, ◌<◌, ◌∙◌, map, length, ap, sym, refl, arith}
use Rattle.std.proofs.lemmas.List.{get_or-map}
use Rattle.resources_chain.specs.Sets.{Run}
use Rattle.resources_chain.specs.Places.{run_at}
use Rattle.resources_chain.proofs.PlaceLemmas.{leapt, leapt_fewer}
use Rattle.resources_chain.proofs.place.from_item.Goals as goal

pub loop-ahead-preserved : goal.loop-ahead-preserved
loop-ahead-preserved g c =
    let here : run_at (map g.B.Block.run c.loop-ahead.rest.now) c.loop-ahead.ahead ≡ g.B.Block.run c.index-rest-ahead.result = get_or-map g.B.Block.run c.loop-ahead.rest.now c.loop-ahead.ahead _ _ c.loop-ahead-test.true ∙ ap g.B.Block.run (sym c.index-rest-ahead.is) in
    let before : (run_at (map g.B.Block.run c.loop-ahead.rest.now) c.loop-ahead.ahead).last < g.B.Block.place c.args.item = omega (arith, ap (λ (r : Run). r.last) here, c.max.ensures, c.if-not-comes_before.ensures.0 refl) in
    (leapt g.B.Block.run c.loop-ahead.rest.now (g.B.Block.place c.args.item) c.loop-ahead.ahead c.loop-ahead.invariant.0 c.loop-ahead-test.true before, leapt_fewer c.loop-ahead.rest.now c.loop-ahead.ahead (length c.args.blocks.now) c.loop-ahead.invariant.1)
