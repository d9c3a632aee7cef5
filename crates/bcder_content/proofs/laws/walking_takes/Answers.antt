use Rattle.bcder_content.proofs.Inside.{took_inside}
use Rattle.bcder_content.proofs.laws.walking_takes.Goals as goal

pub returns : goal.returns
returns c = λ old inner end new tag span ts n k l. took_inside n k l
