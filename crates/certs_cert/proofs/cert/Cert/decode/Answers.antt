use Rattle.std.proofs.Common.{subst}
use Rattle.certs_cert.specs.bcder_tree.declared.mode.Mode.{Mode}
use Rattle.certs_cert.specs.bcder_content.Exact.{ReadsAs}
use Rattle.certs_cert.specs.bcder_content.Here.{here}
use Rattle.certs_cert.proofs.of_bcder_content.Decoding.{exact_decode}
use Rattle.certs_extension.specs.Cert.{CertValue}
use Rattle.certs_extension.specs.CertText.{IsCert}
use Rattle.certs_cert.proofs.Spelled.{decodes_cert}
use Rattle.certs_cert.proofs.cert.Cert.decode.Goals as goal

pub returns : goal.returns
returns g c = decodes_cert _ _ c.cert_is_spelled.ensures
    (exact_decode (record { each = λ p q r m h. subst (λ (z : Mode). ReadsAs (λ (x : CertValue). x) (IsCert z) (here g.I.Source.Source.rest p.now) r (here g.I.Source.Source.rest q.now)) m h }) c.decode.ensures.decoded)
