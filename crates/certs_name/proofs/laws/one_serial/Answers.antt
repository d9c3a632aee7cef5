use Rattle.certs_basics.proofs.Values.{serial_one}
use Rattle.certs_name.proofs.laws.one_serial.Goals as goal

pub returns : goal.returns
returns c = serial_one
