use Rattle.objects.proofs.RoaAgain.{roa_again}
use Rattle.objects.proofs.issued.laws.signed_roas_are_read_again.Goals as goal

pub returns : goal.returns
returns c = roa_again c.built_kinds_are_read_again.ensures.roas c.attestations_are_read_again.ensures.der
