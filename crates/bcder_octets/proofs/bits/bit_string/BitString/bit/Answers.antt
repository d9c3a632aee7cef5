use Rattle.std.proofs.Common.{◌≡◌, ◌-◌, ◌*◌, ◌<◌, length, ap, ◌∙◌, arith}
use Rattle.bcder_octets.specs.Bits.{BitsValue}
use Rattle.bcder_octets.proofs.BitLists.{bit_there}
use Rattle.bcder_octets.proofs.bits.bit_string.BitString.bit.Goals as goal

pub returns : goal.returns
returns c =
    let below : c.args.index < 8 * length c.args.self.now.octets - c.args.self.now.unused = omega arith in
    let octets : c.as_slice.result.now ≡ c.args.self.now.octets = c.as_slice.ensures ∙ ap (λ (v : BitsValue). v.octets) c.self.view_is in
    rw octets (bit_there c.args.self.now c.args.index below)
