use Rattle.std.proofs.Common.{map, length, List, subst, sym, refl, arith}
use Rattle.std.proofs.lemmas.List.{length-map}
use Rattle.resources_chain.specs.Sets.{Run}
use Rattle.resources_chain.specs.Walks.{SameFrom, FirstReaches}
use Rattle.resources_chain.proofs.PlaceLemmas.{near_ordered, reached_same, reached_first, none_near, rest_runs}
use Rattle.resources_chain.proofs.place.from_near.Goals as goal

pub halve-requires-clause-order : goal.halve-requires-clause-order
halve-requires-clause-order g c =
    near_ordered (map g.B.Block.run c.args.blocks.now) (g.B.Block.place c.args.item) c.args.near c.requires.maximal (omega (arith, length-map c.args.blocks.now g.B.Block.run, c.requires.within))

pub returns-in-Some-clause-same : goal.returns-in-Some-clause-same
returns-in-Some-clause-same g c =
    let runs = map g.B.Block.run c.args.blocks.now in
    let n = g.B.Block.place c.args.item in
    subst (λ (s : List Run). SameFrom n runs s) (sym (rest_runs g.B.Block.run c.args.blocks.now c.in-Some.place))
    (reached_same runs n (length runs) c.in-Some.place c.requires.maximal refl (omega (arith, length-map c.args.blocks.now g.B.Block.run, c.requires.within, c.in-Some.ensures.place.0)) c.in-Some.ensures.place.1)

pub returns-in-Some-clause-reaches : goal.returns-in-Some-clause-reaches
returns-in-Some-clause-reaches g c =
    let runs = map g.B.Block.run c.args.blocks.now in
    let n = g.B.Block.place c.args.item in
    subst (λ (s : List Run). FirstReaches n s) (sym (rest_runs g.B.Block.run c.args.blocks.now c.in-Some.place))
    (reached_first runs n (length runs) c.in-Some.place refl (omega (arith, length-map c.args.blocks.now g.B.Block.run, c.requires.within, c.in-Some.ensures.place.0)) c.in-Some.ensures.place.1)

pub returns-in-None-clause-same : goal.returns-in-None-clause-same
returns-in-None-clause-same g c =
    none_near (map g.B.Block.run c.args.blocks.now) (g.B.Block.place c.args.item) c.args.near c.requires.maximal (rw (length-map c.args.blocks.now g.B.Block.run) c.requires.reached) c.in-None.ensures.place
