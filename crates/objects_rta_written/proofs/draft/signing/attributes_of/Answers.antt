use Rattle.std.proofs.Common.{ap, List, ℕ}
use Rattle.objects_written.specs.Attributes.{to_sign}
use Rattle.objects_rta.specs.Attestations.{tagged_attestation}
use Rattle.objects_rta_written.proofs.Signing.{attributes_told, tagged_known}
use Rattle.objects_rta_written.proofs.draft.signing.attributes_of.Goals as goal

pub returns-clause-written : goal.returns-clause-written
returns-clause-written g c =
    attributes_told (to_sign tagged_attestation (g.D.Digester.sha256_digest c.args.digester.now c.args.content.now) c.args.time) (to_sign tagged_attestation c.sha256-digest.result c.args.time)
    (ap (λ (d : List ℕ). to_sign tagged_attestation d c.args.time) c.sha256-digest.ensures) tagged_known c.signed_attributes.result c.signed_attributes.ensures.written
