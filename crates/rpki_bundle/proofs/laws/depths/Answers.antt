use Rattle.rpki_bundle.proofs.Texts.{text_lawful}
use Rattle.rpki_bundle.proofs.laws.depths.Goals as goal

pub returns-clause-least : goal.returns-clause-least
returns-clause-least c = λ octets b t. (text_lawful t).lowest

pub returns-clause-greatest : goal.returns-clause-greatest
returns-clause-greatest c = λ octets b t. (text_lawful t).greatest
