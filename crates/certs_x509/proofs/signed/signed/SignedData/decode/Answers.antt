use Rattle.std.proofs.Common.{subst}
use Rattle.certs_x509.specs.bcder_tree.declared.mode.Mode.{Mode}
use Rattle.certs_x509.specs.bcder_content.Exact.{ReadsAs}
use Rattle.certs_x509.specs.bcder_content.Here.{here}
use Rattle.certs_x509.proofs.of_bcder_content.Decoding.{exact_decode}
use Rattle.certs_x509.specs.Signed.{SpellsSignedData, signed, signed_fields}
use Rattle.certs_x509.proofs.Octets.{front_took}
use Rattle.certs_x509.proofs.signed.signed.SignedData.decode.Goals as goal

pub returns-clause-reads : goal.returns-clause-reads
returns-clause-reads g c =
    exact_decode (record { each = λ p q r m h. subst (λ (z : Mode). ReadsAs signed_fields (signed.reads z) (here g.I.Source.Source.rest p.now) r (here g.I.Source.Source.rest q.now)) m h.0 }) c.decode.ensures.decoded

pub returns-clause-octets : goal.returns-clause-octets
returns-clause-octets g c = front_took {P = SpellsSignedData} (record { each = λ p q x h. h.1 }) c.decode.ensures.decoded
