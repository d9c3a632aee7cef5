use Rattle.bcder.proofs.Characters.{text_tells}
use Rattle.bcder.proofs.string.string.RestrictedString.chars.Goals as goal

pub returns-clause-told : goal.returns-clause-told
returns-clause-told g c = rw (c.of_text.ensures, c.as_octets.ensures.octets) (text_tells g.met.L.CharSet.told _ c.as_octets.ensures.text)
