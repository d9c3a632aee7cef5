use Rattle.objects_written.specs.Frames.{signer}
use Rattle.certs.proofs.Same.{refused_same, wrote_same}
use Rattle.objects_rta_written.proofs.signer.SignerValuesValues.write_encoded.Goals as goal

pub returns-clause-written : goal.returns-clause-written
returns-clause-written g c = wrote_same signer c.args.mode _ _ _ c.lent-value.ensures c.write_encoded.ensures.written

pub returns-clause-refused : goal.returns-clause-refused
returns-clause-refused g c = refused_same signer c.args.mode _ _ _ _ c.lent-value.ensures c.write_encoded.ensures.refused
