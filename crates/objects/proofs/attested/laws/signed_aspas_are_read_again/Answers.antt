use Rattle.objects.proofs.SignedAgain.{signed_again}
use Rattle.objects.proofs.attested.laws.signed_aspas_are_read_again.Goals as goal

pub returns : goal.returns
returns c = signed_again c.built_kinds_are_read_again.ensures.aspas
