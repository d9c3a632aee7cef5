use Rattle.objects_written.proofs.Sets.{set_told}
use Rattle.objects_written.proofs.frame.attributes.set_text.Goals as goal

pub returns-clause-refused : goal.returns-clause-refused
returns-clause-refused c =
    set_told (c.args.a.now, (c.args.b.now, c.args.c.now)) c.in_order-values.result.0.now c.in_order-values.result.1.now c.in_order-values.result.2.now c.in_order-values.ensures.these c.requires.a c.requires.b c.requires.c
    c.are_spelled.ensures c.are_spelled-2.ensures c.are_spelled-3.ensures c.to_captured.result c.to_captured.ensures.refused
