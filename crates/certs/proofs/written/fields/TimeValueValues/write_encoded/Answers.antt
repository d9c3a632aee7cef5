use Rattle.certs.proofs.Times.{time_refused, time_wrote}
use Rattle.certs.proofs.written.fields.TimeValueValues.write_encoded.Goals as goal

pub returns-clause-written : goal.returns-clause-written
returns-clause-written g c = time_wrote c.args.mode _ _ _ c.encode_varied-value.ensures c.write_encoded.ensures.written

pub returns-clause-refused : goal.returns-clause-refused
returns-clause-refused g c = time_refused c.args.mode _ _ _ _ c.encode_varied-value.ensures c.write_encoded.ensures.refused
