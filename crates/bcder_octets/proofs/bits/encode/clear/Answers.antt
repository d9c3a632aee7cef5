use Rattle.bcder_octets.proofs.Padding.{shifted}
use Rattle.bcder_octets.proofs.bits.encode.clear.Goals as goal

pub returns : goal.returns
returns c = rw (shifted c.args.unused c.requires)
