use Rattle.certs_name.proofs.NamesAgain.{inspected_again, name_again}
use Rattle.certs_name.proofs.laws.names_are_read_again.Goals as goal

pub returns-clause-read : goal.returns-clause-read
returns-clause-read c = λ name m text named w. name_again name m text named w

pub returns-clause-inspected : goal.returns-clause-inspected
returns-clause-inspected c = λ name m text strict w r. inspected_again name m text strict w r
