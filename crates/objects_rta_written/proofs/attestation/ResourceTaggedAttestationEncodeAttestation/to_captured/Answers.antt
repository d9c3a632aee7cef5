use Rattle.std.proofs.Common.{IfOk, ap, subst}
use Rattle.objects_written.specs.bcder_tree.declared.mode.Mode.TheVariants.{Der}
use Rattle.objects_rta_written.specs.Contents.{AttestationRefused, ContentParts, attestation, written_parts}
use Rattle.objects_rta_written.proofs.Writing.{attestation_text, text_stop}
use Rattle.objects_rta_written.proofs.attestation.ResourceTaggedAttestationEncodeAttestation.to_captured.Goals as goal

pub returns-clause-written : goal.returns-clause-written
returns-clause-written c = subst (λ (p : ContentParts). IfOk c.text_of.result (λ k. (written_parts p).writes Der k.octets)) c.in_ok-values.ensures.parts c.text_of.ensures.written

pub returns-clause-refused : goal.returns-clause-refused
returns-clause-refused c =
    text_stop _ ((attestation c.args.self.now).writes Der) (AttestationRefused c.args.self.now) (attestation_text c.args.self.now) (ap (λ (p : ContentParts). (written_parts p).writes Der) c.in_ok-values.ensures.parts) c.text_of.result
    c.text_of.ensures.refused
