use Rattle.certs.specs.Values.{subject_key}
use Rattle.certs.proofs.Same.{refused_same, wrote_same}
use Rattle.certs.proofs.written.identifiers.SubjectKeyValueValues.write_encoded.Goals as goal

pub returns-clause-written : goal.returns-clause-written
returns-clause-written g c = wrote_same subject_key c.args.mode _ _ _ c.octets-octets.ensures c.write_encoded.ensures.written

pub returns-clause-refused : goal.returns-clause-refused
returns-clause-refused g c = refused_same subject_key c.args.mode _ _ _ _ c.octets-octets.ensures c.write_encoded.ensures.refused
