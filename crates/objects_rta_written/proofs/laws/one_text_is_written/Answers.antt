use Rattle.objects_written.specs.bcder_tree.declared.mode.Mode.TheVariants.{Der}
use Rattle.objects_rta_written.specs.Again.{parts_of}
use Rattle.objects_rta_written.specs.Frames.{object}
use Rattle.objects_rta_written.proofs.laws.one_text_is_written.Goals as goal

pub returns : goal.returns
returns c = λ o a b v w. (object (parts_of o)).one_text Der a b v w
