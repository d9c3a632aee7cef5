use Rattle.rpki_rules.proofs.FileReasons.{files_have_reasons}
use Rattle.rpki_rules.proofs.laws.files_have_reasons.Goals as goal

pub returns : goal.returns
returns c = files_have_reasons
