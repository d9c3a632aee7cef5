use Rattle.certs_x509.proofs.of_bcder_values.Lent.{len_lent, len_refused}
use Rattle.certs_x509.specs.Signed.{lent}
use Rattle.certs_x509.proofs.signed.written.SignedDataValuesValues.encoded_len.Goals as goal

pub returns-clause-len : goal.returns-clause-len
returns-clause-len c = len_lent lent c.args.mode _ c.fields-value.ensures c.encoded_len.ensures.len

pub returns-clause-refused : goal.returns-clause-refused
returns-clause-refused c = len_refused lent c.args.mode _ c.fields-value.ensures c.encoded_len.ensures.refused
