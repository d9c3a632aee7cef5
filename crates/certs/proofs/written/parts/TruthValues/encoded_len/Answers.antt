use Rattle.std.proofs.Common.{sym, ◌∙◌}
use Rattle.certs.specs.Values.{truth}
use Rattle.certs.proofs.Same.{len_same, no_len_same}
use Rattle.certs.proofs.written.parts.TruthValues.encoded_len.Goals as goal

pub returns-then-tells-clause-len : goal.returns-then-tells-clause-len
returns-then-tells-clause-len c = len_same truth c.args.mode _ (sym c.if-tells.true ∙ c.tells.ensures) c.encoded_len.ensures.len

pub returns-then-tells-clause-refused : goal.returns-then-tells-clause-refused
returns-then-tells-clause-refused c = no_len_same truth c.args.mode _ (sym c.if-tells.true ∙ c.tells.ensures) c.encoded_len.ensures.refused
