use Rattle.certs_extension.proofs.Spellings.{cert_is_spelled}
use Rattle.certs_extension.proofs.forms.laws.cert_is_spelled.Goals as goal

pub returns : goal.returns
returns c = cert_is_spelled
