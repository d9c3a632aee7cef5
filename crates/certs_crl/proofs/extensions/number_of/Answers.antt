use Rattle.certs_crl.proofs.of_bcder_content.Decoding.{exact_decode}
use Rattle.certs_crl.proofs.extensions.number_of.Goals as goal

pub returns : goal.returns
returns c = exact_decode (record { each = λ p q r m h. h }) c.decode.ensures.decoded
