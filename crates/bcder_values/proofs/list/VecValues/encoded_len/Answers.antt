use Rattle.bcder_values.proofs.list.VecValues.encoded_len.Goals as goal

pub returns-clause-refused : goal.returns-clause-refused
returns-clause-refused g c = rw (← c.as_slice.ensures.value) c.len_of_each.ensures.refused
