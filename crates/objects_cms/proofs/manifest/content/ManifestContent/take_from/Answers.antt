use Rattle.std.proofs.Common.{sym, subst}
use Rattle.objects_cms.specs.bcder_content.Exact.{Gives}
use Rattle.objects_cms.specs.bcder_content.Here.{here}
use Rattle.objects_cms.proofs.of_bcder_content.Choices.{as_gives, as_lacks, stop_value}
use Rattle.objects_cms.proofs.of_bcder_content.InMode.{inside}
use Rattle.objects_payload.specs.Manifests.{IsManifest, Manifest, manifest_of}
use Rattle.objects_cms.specs.ManifestFields.{AreManifestFields}
use Rattle.objects_cms.proofs.manifest.content.ManifestContent.take_from.Goals as goal

pub returns-in_err-fields-clause-reads : goal.returns-in_err-fields-clause-reads
returns-in_err-fields-clause-reads g c =
    stop_value _ _ _ _ c.from_residual.ensures (λ l. as_lacks manifest_of l)
    (inside {P = AreManifestFields} (record { each = λ p q r h. h }) c.in_err-fields.ensures.ran)

pub returns-clause-reads : goal.returns-clause-reads
returns-clause-reads g c =
    subst (λ (m : Manifest). Gives IsManifest (here g.S.Source.rest c.args.cons.now) m (here g.S.Source.rest c.take_sequence.new.self)) (sym c.from_fields.ensures)
    (as_gives manifest_of (inside {P = AreManifestFields} (record { each = λ p q r h. h }) c.in_ok-fields.ensures.ran))
