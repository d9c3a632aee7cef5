use Rattle.objects_cms.proofs.of_bcder_content.Choices.{as_reads}
use Rattle.objects_cms.proofs.of_bcder_content.InMode.{inside}
use Rattle.objects_cms.specs.bcder_content.Grammar.{Inside}
use Rattle.objects_cms.specs.bcder_content.Here.{here}
use Rattle.objects_cms.specs.bcder_tree.Tags.{sequence_tag}
use Rattle.objects_valid.specs.Reading.{IsAsnumContent, alone_twice}
use Rattle.objects_valid.specs.Stated.{AreAsnum, innermost}
use Rattle.objects_valid.proofs.stated.take_identifiers.Goals as goal

pub returns : goal.returns
returns g c =
    let rest = g.S.Source.rest in
    as_reads alone_twice (Inside sequence_tag AreAsnum) innermost (here rest c.args.cons.now) (here rest c.take_sequence.new.self) c.take_sequence.result
    (inside {P = IsAsnumContent} (record { each = λ p q r h. h }) c.take_sequence.ensures.ran)
