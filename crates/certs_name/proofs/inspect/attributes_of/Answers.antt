use Rattle.certs_name.proofs.of_bcder_content.Decoding.{exact_decode}
use Rattle.certs_name.proofs.inspect.attributes_of.Goals as goal

pub returns-clause-decodes : goal.returns-clause-decodes
returns-clause-decodes c = exact_decode (record { each = λ p q r m h. h.0 }) c.decode.ensures.decoded
