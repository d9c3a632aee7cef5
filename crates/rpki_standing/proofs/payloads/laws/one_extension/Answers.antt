use Rattle.rpki_standing.proofs.Endings.{one_extension}
use Rattle.rpki_standing.proofs.payloads.laws.one_extension.Goals as goal

pub returns : goal.returns
returns c = one_extension
