use Rattle.rpki_bundle.proofs.OneBundle.{one_bundle}
use Rattle.rpki_bundle.proofs.laws.one_bundle.Goals as goal

pub returns : goal.returns
returns c = λ octets b c p q. one_bundle p q
