use Rattle.rpki_bundle.proofs.Texts.{one_bundle_text}
use Rattle.rpki_bundle.proofs.laws.one_text.Goals as goal

pub returns : goal.returns
returns c = λ octets others b p q. one_bundle_text p q
