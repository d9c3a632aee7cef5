use Rattle.certs.proofs.Times.{time_len, time_no_len}
use Rattle.certs.proofs.written.fields.TimeValueValues.encoded_len.Goals as goal

pub returns-clause-len : goal.returns-clause-len
returns-clause-len c = time_len c.args.mode _ c.encode_varied-value.ensures c.encoded_len.ensures.len

pub returns-clause-refused : goal.returns-clause-refused
returns-clause-refused c = time_no_len c.args.mode _ c.encode_varied-value.ensures c.encoded_len.ensures.refused
