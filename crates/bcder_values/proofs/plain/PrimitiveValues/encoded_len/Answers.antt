use Rattle.bcder_values.proofs.of_bcder_primitive.Compose.{has_both}
use Rattle.bcder_values.proofs.Wrapping.{plain, all_long, has_as}
use Rattle.bcder_values.proofs.plain.PrimitiveValues.encoded_len.Goals as goal

pub returns-clause-len : goal.returns-clause-len
returns-clause-len g c =
    let content = c.in_ok-content.ensures.len in
    has_as (plain c.args.mode (all_long (g.met.P.PrimitiveContent.one_content c.args.self.now.content c.args.mode) content)) (has_both c.header_len.ensures.len content)
