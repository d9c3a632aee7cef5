use Rattle.resources.proofs.set.family.block.FamilyBlockFromStr.from_str.Goals as goal

pub returns : goal.returns
returns g c = rw c.of_block.ensures (rw c.family.ensures at c.in_ok-block.ensures.reads)
