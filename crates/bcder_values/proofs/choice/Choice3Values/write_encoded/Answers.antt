use Rattle.bcder_values.proofs.choice.Choice3Values.write_encoded.Goals as goal

pub returns-in-One-clause-refused : goal.returns-in-One-clause-refused
returns-in-One-clause-refused g c = rw c.in-One.is c.write_encoded.ensures.refused

pub returns-in-Two-clause-refused : goal.returns-in-Two-clause-refused
returns-in-Two-clause-refused g c = rw c.in-Two.is c.write_encoded-in-Two.ensures.refused

pub returns-in-Three-clause-refused : goal.returns-in-Three-clause-refused
returns-in-Three-clause-refused g c = rw c.in-Three.is c.write_encoded-in-Three.ensures.refused
