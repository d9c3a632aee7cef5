use Rattle.bcder_values.proofs.choice.Choice2Values.encoded_len.Goals as goal

pub returns-in-One-clause-refused : goal.returns-in-One-clause-refused
returns-in-One-clause-refused g c = rw c.in-One.is c.encoded_len.ensures.refused

pub returns-in-Two-clause-refused : goal.returns-in-Two-clause-refused
returns-in-Two-clause-refused g c = rw c.in-Two.is c.encoded_len-in-Two.ensures.refused
