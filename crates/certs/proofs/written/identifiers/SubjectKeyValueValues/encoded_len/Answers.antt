use Rattle.certs.specs.Values.{subject_key}
use Rattle.certs.proofs.Same.{len_same, no_len_same}
use Rattle.certs.proofs.written.identifiers.SubjectKeyValueValues.encoded_len.Goals as goal

pub returns-clause-len : goal.returns-clause-len
returns-clause-len c = len_same subject_key c.args.mode _ c.octets-octets.ensures c.encoded_len.ensures.len

pub returns-clause-refused : goal.returns-clause-refused
returns-clause-refused c = no_len_same subject_key c.args.mode _ c.octets-octets.ensures c.encoded_len.ensures.refused
