use Rattle.bcder.proofs.Checks.{one_chars}
use Rattle.bcder.proofs.string.chars_laws.one_text.Goals as goal

pub returns : goal.returns
returns g c = one_chars g.met.L.CharSet.some_octet g.met.L.CharSet.one_start
