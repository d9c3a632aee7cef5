use Rattle.std.proofs.Common.{false}
use Rattle.resources_chain.proofs.WalkLemmas.{parts_of, cut_is, cut_maximal, cut_below, trimmed_is, inside_told, refuted}
use Rattle.resources_chain.proofs.walk.trim.Goals as goal

pub add_all_common-requires-clause-maximal : goal.add_all_common-requires-clause-maximal
add_all_common-requires-clause-maximal g c =
    let u = c.from_outside.ensures.parts in
    cut_maximal u (cut_is g.B.Block.run c.args.blocks.now c.from_outside.result.0.now u c.in_ok-found.ensures.items)

pub add_all_common-requires-clause-one_maximal : goal.add_all_common-requires-clause-one_maximal
add_all_common-requires-clause-one_maximal g c = (parts_of c.from_outside.ensures.parts).1

pub add_all_common-requires-clause-below : goal.add_all_common-requires-clause-below
add_all_common-requires-clause-below g c =
    let u = c.from_outside.ensures.parts in
    let cut = cut_is g.B.Block.run c.args.blocks.now c.from_outside.result.0.now u c.in_ok-found.ensures.items in
    λ m n i j k. cut_below u cut m n i j

pub returns : goal.returns
returns g c =
    let run = g.B.Block.run in
    let u = c.from_outside.ensures.parts in
    let rest = c.from_outside.result.0.now in
    let cut = cut_is run c.args.blocks.now rest u c.in_ok-found.ensures.items in
    (refuted (inside_told run rest false u c.from_outside.ensures.stops c.if-is_empty.ensures), trimmed_is u cut c.in_ok-add_all_common.ensures)
