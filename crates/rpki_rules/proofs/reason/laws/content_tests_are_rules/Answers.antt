use Rattle.rpki_rules.proofs.TestLaws.{content_tests_are_rules}
use Rattle.rpki_rules.proofs.reason.laws.content_tests_are_rules.Goals as goal

pub returns : goal.returns
returns c = content_tests_are_rules
