use Rattle.bcder_values.proofs.choice.OptionValues.write_encoded.Goals as goal

pub returns-in-Some-clause-refused : goal.returns-in-Some-clause-refused
returns-in-Some-clause-refused g c = rw c.in-Some.is c.write_encoded.ensures.refused
