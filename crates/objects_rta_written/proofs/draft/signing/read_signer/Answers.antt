use Rattle.std.proofs.Common.{subst}
use Rattle.objects_written.specs.bcder_tree.declared.mode.Mode.{Mode}
use Rattle.objects_written.specs.bcder_content.Captures.{rest_of}
use Rattle.objects_written.specs.bcder_content.Exact.{ReadsAs}
use Rattle.objects_written.specs.bcder_content.Here.{here}
use Rattle.objects_written.specs.objects_payload.ObjectText.{SpellsSigner}
use Rattle.objects_rta.specs.objects_cms.Signer.{IsSigner, signer_fields}
use Rattle.objects_rta.proofs.of_bcder_content.Decoding.{exact_decode}
use Rattle.certs_cert.proofs.of_certs_x509.Octets.{front_took}
use Rattle.objects_rta_written.proofs.draft.signing.read_signer.Goals as goal

pub returns-clause-reads : goal.returns-clause-reads
returns-clause-reads c =
    exact_decode (record { each = λ p q r m h. subst (λ (z : Mode). ReadsAs signer_fields (IsSigner z) (here rest_of p.now) r (here rest_of q.now)) m h.0 }) c.decode.ensures.decoded

pub returns-clause-octets : goal.returns-clause-octets
returns-clause-octets c = front_took {P = SpellsSigner} (record { each = λ p q x h. h.1 }) c.decode.ensures.decoded
