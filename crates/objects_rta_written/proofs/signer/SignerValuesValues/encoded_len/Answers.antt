use Rattle.objects_written.specs.Frames.{signer}
use Rattle.certs.proofs.Same.{len_same, no_len_same}
use Rattle.objects_rta_written.proofs.signer.SignerValuesValues.encoded_len.Goals as goal

pub returns-clause-len : goal.returns-clause-len
returns-clause-len c = len_same signer c.args.mode _ c.lent-value.ensures c.encoded_len.ensures.len

pub returns-clause-refused : goal.returns-clause-refused
returns-clause-refused c = no_len_same signer c.args.mode _ c.lent-value.ensures c.encoded_len.ensures.refused
