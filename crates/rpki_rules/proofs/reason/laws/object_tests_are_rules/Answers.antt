use Rattle.rpki_rules.specs.Chains.{last_of, Holds}
use Rattle.rpki_rules.proofs.TestLaws.{object_tests_are_rules}
use Rattle.rpki_rules.proofs.reason.laws.object_tests_are_rules.Goals as goal

pub returns : goal.returns
returns c w a cs p uri o x = object_tests_are_rules w (Holds a cs) (last_of a cs).cert p uri o x
