use Rattle.rpki_rules.proofs.Covered.{listing}
use Rattle.rpki_rules.proofs.laws.what_is_attested_is_listed.Goals as goal

pub returns : goal.returns
returns c = listing
