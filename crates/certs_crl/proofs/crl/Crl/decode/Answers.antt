use Rattle.std.proofs.Common.{subst}
use Rattle.certs_crl.specs.bcder_tree.declared.mode.Mode.{Mode}
use Rattle.certs_crl.specs.bcder_content.Exact.{ReadsAs}
use Rattle.certs_crl.specs.bcder_content.Here.{here}
use Rattle.certs_crl.proofs.of_bcder_content.Decoding.{exact_decode}
use Rattle.certs_x509.specs.certs_extension.CrlText.{CrlValue, IsCrl}
use Rattle.certs_crl.proofs.Spelled.{decodes_crl}
use Rattle.certs_crl.proofs.crl.Crl.decode.Goals as goal

pub returns : goal.returns
returns g c = decodes_crl _ _ c.crl_is_spelled.ensures
    (exact_decode (record { each = λ p q r m h. subst (λ (z : Mode). ReadsAs (λ (x : CrlValue). x) (IsCrl z) (here g.I.Source.Source.rest p.now) r (here g.I.Source.Source.rest q.now)) m h }) c.decode.ensures.decoded)
