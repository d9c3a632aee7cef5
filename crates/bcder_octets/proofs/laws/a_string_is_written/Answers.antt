use Rattle.bcder_octets.proofs.Written.{written_string}
use Rattle.bcder_octets.proofs.laws.a_string_is_written.Goals as goal

pub returns : goal.returns
returns c = λ m tag octets ts p. written_string m tag octets ts p
