use Rattle.std.proofs.Common.{subst}
use Rattle.certs_crl.specs.bcder_tree.declared.mode.Mode.{Mode}
use Rattle.certs_crl.specs.bcder_content.Captures.{rest_of}
use Rattle.certs_crl.specs.bcder_content.Exact.{ReadsAs}
use Rattle.certs_crl.specs.bcder_content.Here.{here}
use Rattle.certs_crl.proofs.of_bcder_content.Decoding.{exact_decode}
use Rattle.certs_x509.proofs.Octets.{front_took}
use Rattle.certs_x509.specs.certs_extension.CrlText.{IsTbsList, SpellsTbsList}
use Rattle.certs_crl.specs.Fields.{as_list}
use Rattle.certs_crl.proofs.Whole.{kept_octets}
use Rattle.certs_crl.proofs.decoding.tbs_of.Goals as goal

pub returns-clause-reads : goal.returns-clause-reads
returns-clause-reads c = exact_decode (record { each = λ p q r m h. subst (λ (z : Mode). ReadsAs as_list (IsTbsList z) (here rest_of p.now) r (here rest_of q.now)) m h.0 }) (rw (kept_octets c.into_bytes.ensures.octets c.in_ok-message.ensures) at c.decode.ensures.decoded)

pub returns-clause-octets : goal.returns-clause-octets
returns-clause-octets c = front_took {P = SpellsTbsList} (record { each = λ p q x h. h.1 }) (rw (kept_octets c.into_bytes.ensures.octets c.in_ok-message.ensures) at c.decode.ensures.decoded)
