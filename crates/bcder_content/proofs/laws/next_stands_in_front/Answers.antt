use Rattle.bcder_content.specs.bcder_source.Views.{left}
use Rattle.bcder_content.specs.Contents.{octets}
use Rattle.bcder_content.proofs.Took.{took_front}
use Rattle.bcder_content.proofs.Nexts.{front_next}
use Rattle.bcder_content.proofs.laws.next_stands_in_front.Goals as goal

pub returns : goal.returns
returns c = λ v t. (λ a. (a.1.goes.before, (left (octets a.0), took_front a.1)), λ h. front_next h.0 h.1.1)
