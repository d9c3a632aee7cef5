use Rattle.std.proofs.Common.{subst}
use Rattle.certs_key.specs.bcder_tree.declared.mode.Mode.{Mode}
use Rattle.certs_key.specs.bcder_content.Exact.{ReadsAs}
use Rattle.certs_key.specs.bcder_content.Here.{here}
use Rattle.certs_key.proofs.of_bcder_content.Decoding.{exact_decode}
use Rattle.certs_key.specs.certs_basics.Keys.{IsKey}
use Rattle.certs_key.proofs.Padded.{decoded_padded}
use Rattle.certs_key.proofs.key.PublicKey.decode.Goals as goal

pub returns-clause-decodes : goal.returns-clause-decodes
returns-clause-decodes g c = exact_decode (record { each = λ p q r e h. subst (λ (m : Mode). ReadsAs (λ k. k) (IsKey m) (here g.I.Source.Source.rest p.now) r (here g.I.Source.Source.rest q.now)) e h }) c.decode.ensures.decoded

pub returns-clause-padded : goal.returns-clause-padded
returns-clause-padded g c = decoded_padded _ c.decode.result (returns-clause-decodes g c)
