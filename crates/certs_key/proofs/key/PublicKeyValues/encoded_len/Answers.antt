use Rattle.std.proofs.Common.{ap, ◌∙◌}
use Rattle.certs_key.proofs.of_bcder_values.Lent.{len_lent, len_refused}
use Rattle.certs_key.specs.Forms.{lent, key_lends}
use Rattle.certs_key.proofs.key.PublicKeyValues.encoded_len.Goals as goal

pub returns-clause-len : goal.returns-clause-len
returns-clause-len c = len_lent lent c.args.mode _ (c.encoder-value.ensures ∙ ap key_lends c.self.view_is) c.encoded_len.ensures.len

pub returns-clause-refused : goal.returns-clause-refused
returns-clause-refused c = len_refused lent c.args.mode _ (c.encoder-value.ensures ∙ ap key_lends c.self.view_is) c.encoded_len.ensures.refused
