use Rattle.bcder_tree.proofs.length.long_length.Goals as goal

pub returns-in-129-clause-none : goal.returns-in-129-clause-none
returns-in-129-clause-none c = rw c.in-129.is c.length_of_1.ensures.none

pub returns-in-130-clause-none : goal.returns-in-130-clause-none
returns-in-130-clause-none c = rw c.in-130.is c.length_of_2.ensures.none

pub returns-in-131-clause-none : goal.returns-in-131-clause-none
returns-in-131-clause-none c = rw c.in-131.is c.length_of_3.ensures.none

pub returns-in-132-clause-none : goal.returns-in-132-clause-none
returns-in-132-clause-none c = rw c.in-132.is c.length_of_4.ensures.none
