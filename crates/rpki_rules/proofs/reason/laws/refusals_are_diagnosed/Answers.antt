use Rattle.rpki_rules.proofs.DiagnosisLaws.{refusals_are_diagnosed}
use Rattle.rpki_rules.proofs.reason.laws.refusals_are_diagnosed.Goals as goal

pub returns : goal.returns
returns c = refusals_are_diagnosed
