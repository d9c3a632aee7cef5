use Rattle.rpki_steps.proofs.Unheld.{not_held_there}
use Rattle.rpki_steps.proofs.point.files.file_in.Goals as goal

pub returns-in_default : goal.returns-in_default
returns-in_default c = not_held_there c.args.bundle.now c.is_spelled.ensures c.args.folder.now c.args.name.now (rw c.in_default.is at c.in_ok-uri.ensures)
