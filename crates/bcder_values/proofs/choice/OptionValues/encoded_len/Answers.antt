use Rattle.bcder_values.proofs.choice.OptionValues.encoded_len.Goals as goal

pub returns-in-Some-clause-refused : goal.returns-in-Some-clause-refused
returns-in-Some-clause-refused g c = rw c.in-Some.is c.encoded_len.ensures.refused
