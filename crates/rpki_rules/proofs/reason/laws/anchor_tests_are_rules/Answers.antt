use Rattle.rpki_rules.proofs.TestLaws.{anchor_tests_are_rules}
use Rattle.rpki_rules.proofs.reason.laws.anchor_tests_are_rules.Goals as goal

pub returns : goal.returns
returns c = anchor_tests_are_rules
