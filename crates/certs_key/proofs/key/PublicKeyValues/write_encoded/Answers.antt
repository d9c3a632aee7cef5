use Rattle.std.proofs.Common.{ap, ◌∙◌}
use Rattle.certs_key.proofs.of_bcder_values.Lent.{write_lent, write_refused}
use Rattle.certs_key.specs.Forms.{lent, key_lends}
use Rattle.certs_key.proofs.key.PublicKeyValues.write_encoded.Goals as goal

pub returns-clause-written : goal.returns-clause-written
returns-clause-written g c = write_lent lent c.args.mode _ _ _ (c.encoder-value.ensures ∙ ap key_lends c.self.view_is) c.write_encoded.ensures.written

pub returns-clause-refused : goal.returns-clause-refused
returns-clause-refused g c = write_refused lent c.args.mode _ _ _ _ (c.encoder-value.ensures ∙ ap key_lends c.self.view_is) c.write_encoded.ensures.refused
