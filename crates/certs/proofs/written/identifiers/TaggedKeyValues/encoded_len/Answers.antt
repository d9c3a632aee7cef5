use Rattle.certs.specs.bcder.Kinds.{octets_at}
use Rattle.certs.specs.bcder_tree.Tags.{context}
use Rattle.certs.specs.Outputs.{of}
use Rattle.certs.proofs.Same.{len_same, no_len_same}
use Rattle.certs.proofs.written.identifiers.TaggedKeyValues.encoded_len.Goals as goal

pub returns-clause-len : goal.returns-clause-len
returns-clause-len c = len_same (of (octets_at (context 0))) c.args.mode _ c.as_slice-octets.ensures.octets c.encoded_len.ensures.len

pub returns-clause-refused : goal.returns-clause-refused
returns-clause-refused c = no_len_same (of (octets_at (context 0))) c.args.mode _ c.as_slice-octets.ensures.octets c.encoded_len.ensures.refused
