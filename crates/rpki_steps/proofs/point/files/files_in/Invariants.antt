use Rattle.rpki_rules.specs.World.{find_object}
use Rattle.rpki_steps.proofs.Listed.{IsReadTo}
use Rattle.rpki_steps.proofs.point.files.files_in.Given as goal

abbrev pub invariant-loop-listed : goal.invariant-loop-listed
invariant-loop-listed l = IsReadTo (find_object l.fn.bundle.objects) l.fn.folder l.fn.manifest.files l.left l.files.items
