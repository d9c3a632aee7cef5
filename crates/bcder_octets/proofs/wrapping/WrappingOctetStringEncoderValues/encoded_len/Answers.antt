use Rattle.bcder_octets.proofs.Around.{around}
use Rattle.bcder_octets.proofs.wrapping.WrappingOctetStringEncoderValues.encoded_len.Goals as goal
use Rattle.bcder_values.proofs.Wrapping.{all_long, has_as}
use Rattle.bcder_octets.proofs.of_bcder_primitive.Compose.{has_both}

pub returns-clause-len : goal.returns-clause-len
returns-clause-len g c =
    let content = c.in_ok-content.ensures.len in
    has_as (around c.args.mode c.in_ok-content.ensures.not_cer (all_long (g.met.V.Values.one_text c.args.self.now.values c.args.self.now.mode) content)) (has_both c.header_len.ensures.len content)
