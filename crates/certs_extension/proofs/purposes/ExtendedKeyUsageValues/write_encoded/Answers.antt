use Rattle.certs_extension.proofs.Oids.{list_written, list_unwritten}
use Rattle.certs_extension.proofs.purposes.ExtendedKeyUsageValues.write_encoded.Goals as goal

pub returns-clause-written : goal.returns-clause-written
returns-clause-written g c = list_written _ c.args.mode _ _ _ c.as_values-value.ensures c.write_encoded.ensures.written

pub returns-clause-refused : goal.returns-clause-refused
returns-clause-refused g c = list_unwritten _ c.args.mode _ _ _ _ c.as_values-value.ensures c.write_encoded.ensures.refused
