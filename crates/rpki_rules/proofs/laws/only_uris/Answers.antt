use Rattle.rpki_rules.proofs.LookedUp.{only_uris}
use Rattle.rpki_rules.proofs.laws.only_uris.Goals as goal

pub returns : goal.returns
returns c = only_uris
