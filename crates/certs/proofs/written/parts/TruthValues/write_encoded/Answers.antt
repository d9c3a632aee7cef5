use Rattle.std.proofs.Common.{sym, ◌∙◌}
use Rattle.certs.specs.Values.{truth}
use Rattle.certs.proofs.Same.{refused_same, wrote_same}
use Rattle.certs.proofs.written.parts.TruthValues.write_encoded.Goals as goal

pub returns-then-tells-clause-written : goal.returns-then-tells-clause-written
returns-then-tells-clause-written g c = wrote_same truth c.args.mode _ _ _ (sym c.if-tells.true ∙ c.tells.ensures) c.write_encoded.ensures.written

pub returns-then-tells-clause-refused : goal.returns-then-tells-clause-refused
returns-then-tells-clause-refused g c = refused_same truth c.args.mode _ _ _ _ (sym c.if-tells.true ∙ c.tells.ensures) c.write_encoded.ensures.refused
