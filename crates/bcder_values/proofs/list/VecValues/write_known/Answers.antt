use Rattle.bcder_values.proofs.list.VecValues.write_known.Goals as goal

pub returns-clause-refused : goal.returns-clause-refused
returns-clause-refused g c = rw (← c.as_slice.ensures.value) c.put_each.ensures.refused
