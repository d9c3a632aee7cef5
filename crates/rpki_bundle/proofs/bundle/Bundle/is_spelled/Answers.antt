use Rattle.std.proofs.Common.{subst}
use Rattle.rpki_bundle.specs.Bundle.{IsSpelled}
use Rattle.rpki_bundle.proofs.bundle.Bundle.is_spelled.Goals as goal

pub returns : goal.returns
returns c = subst IsSpelled c.self.view_is c.self.invariant
