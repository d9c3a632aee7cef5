use Rattle.resources_asn.specs.Origins.{origin_total, origin_same}
use Rattle.resources_asn.proofs.laws.origins_are_ordered.Goals as goal

pub returns-clause-total : goal.returns-clause-total
returns-clause-total c = origin_total

pub returns-clause-equal : goal.returns-clause-equal
returns-clause-equal c = origin_same
