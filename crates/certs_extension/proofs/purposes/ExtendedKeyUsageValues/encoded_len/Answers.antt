use Rattle.certs_extension.proofs.Oids.{list_len, list_no_len}
use Rattle.certs_extension.proofs.purposes.ExtendedKeyUsageValues.encoded_len.Goals as goal

pub returns-clause-len : goal.returns-clause-len
returns-clause-len c = list_len _ c.args.mode _ c.as_values-value.ensures c.encoded_len.ensures.len

pub returns-clause-refused : goal.returns-clause-refused
returns-clause-refused c = list_no_len _ c.args.mode _ c.as_values-value.ensures c.encoded_len.ensures.refused
