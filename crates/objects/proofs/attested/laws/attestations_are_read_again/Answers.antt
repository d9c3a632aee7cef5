use Rattle.objects.proofs.AspaAgain.{aspa_text}
use Rattle.objects.proofs.attested.laws.attestations_are_read_again.Goals as goal

pub returns : goal.returns
returns c = aspa_text
