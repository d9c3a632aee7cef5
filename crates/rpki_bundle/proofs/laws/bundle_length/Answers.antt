use Rattle.rpki_bundle.proofs.OneBundle.{bundle_bound}
use Rattle.rpki_bundle.proofs.laws.bundle_length.Goals as goal

pub returns : goal.returns
returns c = λ octets b p. bundle_bound p
