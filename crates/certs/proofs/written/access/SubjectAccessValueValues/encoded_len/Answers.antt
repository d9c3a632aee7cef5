use Rattle.certs.specs.Values.{all_locations}
use Rattle.certs.proofs.Same.{len_same, no_len_same}
use Rattle.certs.proofs.written.access.SubjectAccessValueValues.encoded_len.Goals as goal

pub returns-clause-len : goal.returns-clause-len
returns-clause-len c = len_same all_locations c.args.mode _ c.fields-value.ensures c.encoded_len.ensures.len

pub returns-clause-refused : goal.returns-clause-refused
returns-clause-refused c = no_len_same all_locations c.args.mode _ c.fields-value.ensures c.encoded_len.ensures.refused
