use Rattle.objects_written.specs.bcder_tree.declared.mode.Mode.TheVariants.{Der}
use Rattle.objects_written.specs.Attributes.{content_type}
use Rattle.objects_contents.proofs.Lacking.{lacked}
use Rattle.objects_written.proofs.frame.attributes.type_text.Goals as goal

pub returns-clause-memory : goal.returns-clause-memory
returns-clause-memory c = lacked ((content_type c.args.content_type.now).writes Der) c.to_captured.result c.to_captured.ensures.memory
