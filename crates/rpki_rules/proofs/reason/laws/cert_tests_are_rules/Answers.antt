use Rattle.rpki_rules.proofs.TestLaws.{cert_tests_are_rules}
use Rattle.rpki_rules.proofs.reason.laws.cert_tests_are_rules.Goals as goal

pub returns : goal.returns
returns c = cert_tests_are_rules
