use Rattle.certs_basics.proofs.Meanings.{one_written}
use Rattle.certs_basics.proofs.time.laws.one_time_is_written.Goals as goal

pub returns : goal.returns
returns c = one_written
