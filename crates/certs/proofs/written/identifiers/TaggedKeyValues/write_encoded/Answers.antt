use Rattle.certs.specs.bcder.Kinds.{octets_at}
use Rattle.certs.specs.bcder_tree.Tags.{context}
use Rattle.certs.specs.Outputs.{of}
use Rattle.certs.proofs.Same.{refused_same, wrote_same}
use Rattle.certs.proofs.written.identifiers.TaggedKeyValues.write_encoded.Goals as goal

pub returns-clause-written : goal.returns-clause-written
returns-clause-written g c = wrote_same (of (octets_at (context 0))) c.args.mode _ _ _ c.as_slice-octets.ensures.octets c.write_encoded.ensures.written

pub returns-clause-refused : goal.returns-clause-refused
returns-clause-refused g c = refused_same (of (octets_at (context 0))) c.args.mode _ _ _ _ c.as_slice-octets.ensures.octets c.write_encoded.ensures.refused
