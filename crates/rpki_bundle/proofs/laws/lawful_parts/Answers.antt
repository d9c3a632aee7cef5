use Rattle.rpki_bundle.proofs.Texts.{text_lawful}
use Rattle.rpki_bundle.proofs.laws.lawful_parts.Goals as goal

pub returns : goal.returns
returns c = λ octets b t. text_lawful t
