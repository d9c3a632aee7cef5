use Rattle.certs_x509.proofs.of_bcder_values.Lent.{write_lent, write_refused}
use Rattle.certs_x509.specs.Signed.{lent}
use Rattle.certs_x509.proofs.signed.written.SignedDataValuesValues.write_encoded.Goals as goal

pub returns-clause-written : goal.returns-clause-written
returns-clause-written g c = write_lent lent c.args.mode _ _ _ c.fields-value.ensures c.write_encoded.ensures.written

pub returns-clause-refused : goal.returns-clause-refused
returns-clause-refused g c = write_refused lent c.args.mode _ _ _ _ c.fields-value.ensures c.write_encoded.ensures.refused
