use Rattle.certs_key.proofs.Encodings.{encoded_is, encoded_alone, written_encodes}
use Rattle.certs_key.proofs.laws.encoded_is_der.Goals as goal

pub returns-clause-is : goal.returns-clause-is
returns-clause-is c = encoded_is

pub returns-clause-alone : goal.returns-clause-alone
returns-clause-alone c = encoded_alone

pub returns-clause-written : goal.returns-clause-written
returns-clause-written c = λ k octets w. encoded_alone k octets (written_encodes k octets w)
