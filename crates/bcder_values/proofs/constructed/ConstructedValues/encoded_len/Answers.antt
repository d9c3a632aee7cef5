use Rattle.bcder_values.specs.bcder_primitive.Writing.{HasLength}
use Rattle.bcder_values.proofs.of_bcder_primitive.Compose.{has_both}
use Rattle.bcder_values.proofs.Wrapping.{wrapped, all_long, has_as}
use Rattle.bcder_values.proofs.constructed.ConstructedValues.encoded_len.Goals as goal
use Rattle.std.proofs.Common.{◌≡◌, ◌+◌, arith, sym, subst}

pub returns-clause-len : goal.returns-clause-len
returns-clause-len g c =
    let content = c.in_ok-content.ensures.len in
    let long = all_long (g.met.V.Values.one_text c.args.self.now.inner c.args.mode) content in
    let sum : c.opening_len.result + c.in_ok-content.content + c.closing_len.result ≡ c.opening_len.result + (c.in_ok-content.content + c.closing_len.result) = omega arith in
    subst (HasLength _) (sym sum) (has_as (wrapped c.args.mode (omega arith) long) (has_both c.opening_len.ensures.len (has_both content c.closing_len.ensures.len)))
