use Rattle.objects_written.specs.bcder_tree.declared.mode.Mode.TheVariants.{Der}
use Rattle.objects_rta_written.proofs.Writing.{text_told}
use Rattle.objects_rta_written.proofs.der.text_of.Goals as goal

pub returns-in-Err-clause-refused : goal.returns-in-Err-clause-refused
returns-in-Err-clause-refused g c = text_told c.in-Err.error c.cause_of.result c.cause_of.ensures (g.met.V.Values.spelled c.args.values.now Der) c.in-Err.ensures.refused
