use Rattle.certs_name.proofs.NamesAgain.{key_name_passes}
use Rattle.certs_name.proofs.laws.key_names_pass_inspection.Goals as goal

pub returns : goal.returns
returns c = λ identifier octets strict h s. key_name_passes identifier octets strict h s
