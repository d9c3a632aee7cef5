use Rattle.rpki_rules.specs.Chains.{last_of, Holds}
use Rattle.rpki_rules.proofs.TestLaws.{point_tests_are_rules}
use Rattle.rpki_rules.proofs.reason.laws.point_tests_are_rules.Goals as goal

pub returns : goal.returns
returns c w a cs p = point_tests_are_rules w (Holds a cs) (last_of a cs).cert p
