use Rattle.rpki_bundle.proofs.Numbered.{flag_refused}
use Rattle.rpki_bundle.proofs.version.FlagValues.write_encoded.Goals as goal

pub returns-in-One-clause-refused : goal.returns-in-One-clause-refused
returns-in-One-clause-refused g c = flag_refused _ _ _ _ _ _ _ c.in-One.is c.write_encoded.ensures.refused
