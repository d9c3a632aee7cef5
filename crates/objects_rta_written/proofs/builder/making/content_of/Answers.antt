use Rattle.objects_written.specs.bcder_tree.declared.mode.Mode.TheVariants.{Der}
use Rattle.objects_rta_written.proofs.Making.{not_refused, same_content}
use Rattle.objects_rta_written.proofs.builder.making.content_of.Goals as goal

pub returns-in-Ok-clause-made : goal.returns-in-Ok-clause-made
returns-in-Ok-clause-made c = λ x s.
    same_content c.args.octets x _ (c.one_attestation.ensures Der) s c.in-Ok.ensures.0 c.in-Ok.ensures.1 c.in-Ok.ensures.2 c.in-Ok.ensures.3

pub unreachable-requires : goal.unreachable-requires
unreachable-requires c = not_refused c.args.octets c.requires.0 c.requires.1 (rw c.in-Err-Content.field-0-is at c.in-Err-Content.ensures)
