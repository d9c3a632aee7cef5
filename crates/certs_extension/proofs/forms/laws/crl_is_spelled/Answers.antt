use Rattle.certs_extension.proofs.Spellings.{crl_is_spelled}
use Rattle.certs_extension.proofs.forms.laws.crl_is_spelled.Goals as goal

pub returns : goal.returns
returns c = crl_is_spelled
