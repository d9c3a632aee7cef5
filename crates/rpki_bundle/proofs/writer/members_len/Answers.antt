use Rattle.rpki_bundle.proofs.Numbered.{count_refused}
use Rattle.rpki_bundle.proofs.writer.members_len.Goals as goal

pub returns-clause-refused : goal.returns-clause-refused
returns-clause-refused g c = count_refused _ _ _ _ _ _ c.number.ensures _ c.encoded_len.ensures.refused
