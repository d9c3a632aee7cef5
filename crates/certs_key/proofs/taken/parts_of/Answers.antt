use Rattle.std.proofs.Common.{subst}
use Rattle.certs_key.specs.bcder_tree.declared.mode.Mode.{Mode}
use Rattle.certs_key.specs.bcder_content.Captures.{rest_of}
use Rattle.certs_key.specs.bcder_content.Exact.{ReadsAs}
use Rattle.certs_key.specs.bcder_content.Here.{here}
use Rattle.certs_key.proofs.of_bcder_content.Decoding.{exact_decode}
use Rattle.certs_key.specs.Reading.{IsParts, parts_fields}
use Rattle.certs_key.proofs.taken.parts_of.Goals as goal

pub returns : goal.returns
returns c = exact_decode (record { each = λ p q r m h. subst (λ (z : Mode). ReadsAs parts_fields (IsParts z) (here rest_of p.now) r (here rest_of q.now)) m h }) c.decode.ensures.decoded
