use Rattle.std.proofs.Common.{map, length, sym}
use Rattle.std.proofs.lemmas.List.{length-map}
use Rattle.resources_chain.proofs.PlaceLemmas.{around_ordered, around_told}
use Rattle.resources_chain.proofs.place.place_of.Goals as goal

pub halve-place-requires-clause-order : goal.halve-place-requires-clause-order
halve-place-requires-clause-order g c =
    around_ordered (map g.B.Block.run c.args.blocks.now) (g.B.Block.place c.args.item) (length c.args.blocks.now) c.requires.maximal (sym (length-map c.args.blocks.now g.B.Block.run))

pub returns-clause-place : goal.returns-clause-place
returns-clause-place g c = around_told g.B.Block.run c.args.blocks.now (g.B.Block.place c.args.item) c.halve-place.result c.halve-place.ensures.place
