use Rattle.rpki_rules.proofs.TestLaws.{revocation_tests_are_rules}
use Rattle.rpki_rules.proofs.reason.laws.revocation_tests_are_rules.Goals as goal

pub returns : goal.returns
returns c = revocation_tests_are_rules
