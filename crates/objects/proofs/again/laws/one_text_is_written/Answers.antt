use Rattle.objects.proofs.Texts.{one_again}
use Rattle.objects.proofs.again.laws.one_text_is_written.Goals as goal

pub returns : goal.returns
returns c = one_again
