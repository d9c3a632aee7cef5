use Rattle.std.proofs.Common.{IfOk, subst}
use Rattle.objects.specs.bcder_tree.declared.mode.Mode.TheVariants.{Der}
use Rattle.objects.specs.objects_payload.Aspas.{Aspa}
use Rattle.objects.specs.Written.{aspa}
use Rattle.objects.proofs.AspaAgain.{aspa_told}
use Rattle.std.specs.Prelude.{◌≡◌, ℕ, IfErr, List}
use Rattle.objects.specs.bcder_primitive.declared.written.error.EncodeError.TheVariants as causes
use Rattle.objects_contents.proofs.Lacking.{lacked}
use Rattle.objects.proofs.attested.builder.AspaBuilder.to_octets.Goals as goal

pub returns-clause-again : goal.returns-clause-again
returns-clause-again c =
    aspa_told c.args.self.now c.to_captured.result
    (subst (λ (a : Aspa). IfOk c.to_captured.result (λ k. (aspa a).writes Der k.octets)) c.encode_ref-value.ensures c.to_captured.ensures.captured)

pub returns-clause-memory : goal.returns-clause-memory
returns-clause-memory c =
    subst (λ (a : Aspa). IfErr c.to_captured.result (λ e. e ≡ causes.Memory → (text : List ℕ) × (aspa a).writes Der text)) c.encode_ref-value.ensures
    (lacked _ c.to_captured.result c.to_captured.ensures.memory)
