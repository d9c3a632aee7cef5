use Rattle.std.proofs.Common.{rules, ◌≡◌, ◌-◌, ◌*◌, length, sym, ◌∙◌}
use Rattle.bcder_octets.proofs.BitLists.{length-bits}
use Rattle.bcder_octets.proofs.bits.bit_string.BitString.count.Goals as goal

pub returns-clause-bits : goal.returns-clause-bits
returns-clause-bits c =
    let octets : c.len.result * 8 - c.from.result ≡ 8 * length c.args.self.now.octets - c.args.self.now.unused = search rules in
    octets ∙ sym (length-bits c.args.self.now)
