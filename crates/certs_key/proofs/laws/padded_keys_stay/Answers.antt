use Rattle.certs_key.proofs.Padded.{key_stays}
use Rattle.certs_key.proofs.laws.padded_keys_stay.Goals as goal

pub returns : goal.returns
returns c = key_stays
