use Rattle.std.specs.declared.cmp.Ordering.TheVariants.{Less, Greater}
use Rattle.std.proofs.lemmas.Cmp.{ranked}
use Rattle.resources_asn.proofs.ChosenLemmas.{take_first, take_second}
use Rattle.resources_asn.proofs.selection.Step.least.Goals as goal

pub returns-in-Less : goal.returns-in-Less
returns-in-Less c =
    let pair = c.in-Some-Some in
    rw c.of_first-in-Less.ensures (take_first c.args.first.now c.args.second.now pair.first_behind.now pair.second_behind.now pair.one.now pair.other.now pair.ensures.cases.0 pair.ensures'.cases.0 (ranked pair.one.now.value pair.other.now.value Less c.in-Less.ensures) c.requires.second)

pub returns-in-Greater : goal.returns-in-Greater
returns-in-Greater c =
    let pair = c.in-Some-Some in
    rw c.of_second-in-Greater.ensures (take_second c.args.first.now c.args.second.now pair.first_behind.now pair.second_behind.now pair.one.now pair.other.now pair.ensures.cases.0 pair.ensures'.cases.0 (ranked pair.one.now.value pair.other.now.value Greater c.in-Greater.ensures) c.requires.first)
