use Rattle.rpki_bundle.proofs.Numbered.{write_refused}
use Rattle.rpki_bundle.proofs.writer.write_members.Goals as goal

pub returns-clause-refused : goal.returns-clause-refused
returns-clause-refused g c = write_refused _ _ _ _ _ _ c.number.ensures _ _ _ _ c.write_encoded.ensures.refused
