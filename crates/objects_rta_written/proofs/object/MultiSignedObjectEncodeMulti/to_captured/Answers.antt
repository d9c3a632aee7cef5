use Rattle.std.proofs.Common.{IfOk, ap, subst}
use Rattle.objects_written.specs.bcder_tree.declared.mode.Mode.TheVariants.{Der}
use Rattle.objects_rta_written.specs.Again.{AgainRefused, WritesAgain}
use Rattle.objects_rta_written.specs.Frames.{MultiParts, object}
use Rattle.objects_rta_written.proofs.Writing.{object_text, text_stop}
use Rattle.objects_rta_written.proofs.object.MultiSignedObjectEncodeMulti.to_captured.Goals as goal

pub returns-clause-written : goal.returns-clause-written
returns-clause-written c = subst (λ (p : MultiParts). IfOk c.text_of.result (λ k. (object p).writes Der k.octets)) c.in_ok-values.ensures.parts c.text_of.ensures.written

pub returns-clause-refused : goal.returns-clause-refused
returns-clause-refused c =
    text_stop _ (WritesAgain c.args.self.now) (AgainRefused c.args.self.now) (object_text c.args.self.now c.in_ok-values.ensures.stands) (ap (λ (p : MultiParts). (object p).writes Der) c.in_ok-values.ensures.parts) c.text_of.result
    c.text_of.ensures.refused
