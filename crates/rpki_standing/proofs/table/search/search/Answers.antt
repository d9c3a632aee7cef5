use Rattle.rpki_standing.proofs.Places.{ascends_ordered, place_told}
use Rattle.rpki_standing.proofs.table.search.search.Goals as goal

pub halve-place-requires-clause-order : goal.halve-place-requires-clause-order
halve-place-requires-clause-order g c = ascends_ordered g.S.Sought.sort_key c.args.entries.now (g.S.Sought.key c.args.sought.now) c.requires.order

pub returns-clause-place : goal.returns-clause-place
returns-clause-place g c = place_told g.S.Sought.sort_key c.args.entries.now (g.S.Sought.key c.args.sought.now) c.halve-place.result c.halve-place.ensures.place
