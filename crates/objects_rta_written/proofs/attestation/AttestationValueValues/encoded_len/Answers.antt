use Rattle.objects_rta_written.specs.Contents.{written_content}
use Rattle.certs.proofs.Same.{len_same, no_len_same}
use Rattle.objects_rta_written.proofs.attestation.AttestationValueValues.encoded_len.Goals as goal

pub returns-clause-len : goal.returns-clause-len
returns-clause-len c = len_same written_content c.args.mode _ c.fields-value.ensures c.encoded_len.ensures.len

pub returns-clause-refused : goal.returns-clause-refused
returns-clause-refused c = no_len_same written_content c.args.mode _ c.fields-value.ensures c.encoded_len.ensures.refused
