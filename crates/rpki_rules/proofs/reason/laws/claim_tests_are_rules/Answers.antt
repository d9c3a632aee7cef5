use Rattle.rpki_rules.specs.Chains.{Holds}
use Rattle.rpki_rules.proofs.TestLaws.{claim_tests_are_rules}
use Rattle.rpki_rules.proofs.reason.laws.claim_tests_are_rules.Goals as goal

pub returns : goal.returns
returns c a cs e = claim_tests_are_rules (Holds a cs) e
