use Rattle.objects_valid.proofs.Parts.{stated_one}
use Rattle.objects_valid.proofs.stated.laws.one_meaning.Goals as goal

pub returns : goal.returns
returns c = stated_one
