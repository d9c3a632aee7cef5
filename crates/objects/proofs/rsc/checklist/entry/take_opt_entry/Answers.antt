use Rattle.objects_payload.proofs.of_bcder_content.InMode.{inside_opt}
use Rattle.objects_payload.proofs.of_bcder_content.Meaning.{opt_meaning}
use Rattle.objects_payload.specs.bcder_content.Grammar.{Inside}
use Rattle.objects_payload.specs.bcder_content.Here.{here}
use Rattle.objects_payload.specs.bcder_tree.Tags.{sequence_tag}
use Rattle.objects.specs.Checklists.{AreEntryFields, file_of}
use Rattle.objects.specs.ChecklistEntries.{entry_fields}
use Rattle.objects.proofs.rsc.checklist.entry.take_opt_entry.Goals as goal

pub returns : goal.returns
returns g c =
    let rest = g.S.Source.rest in
    let old = here rest c.args.cons.now in
    opt_meaning entry_fields file_of sequence_tag (Inside sequence_tag (AreEntryFields old.mode)) old (here rest c.take_opt_sequence.new.self) c.take_opt_sequence.result
    (inside_opt {P = AreEntryFields} (record { each = λ p q r h. h }) c.take_opt_sequence.ensures.ran)
