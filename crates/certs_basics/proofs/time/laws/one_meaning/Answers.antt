use Rattle.certs_basics.proofs.Meanings.{time_one, validity_one}
use Rattle.certs_basics.proofs.time.laws.one_meaning.Goals as goal

pub returns-clause-time : goal.returns-clause-time
returns-clause-time c = time_one

pub returns-clause-validity : goal.returns-clause-validity
returns-clause-validity c = validity_one
