use Rattle.bcder_octets.proofs.SameBits.{padded_bits}
use Rattle.bcder_octets.proofs.bits.laws.padding_is_no_bit.Goals as goal

pub returns : goal.returns
returns c = padded_bits
