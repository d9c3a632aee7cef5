use Rattle.std.proofs.Common.{refl, rules}
use Rattle.certs_crl.specs.bcder_tree.Tags.{context, sequence_tag}
use Rattle.certs_x509.specs.bcder_primitive.Encoded.{WritesWrapped}
use Rattle.bcder.specs.bcder_octets.Segments.{WritesString}
use Rattle.certs_crl.proofs.Alone.{extension_back, key_back}
use Rattle.certs_crl.proofs.Writing.{extension_as, key_as}
use Rattle.certs_crl.proofs.written.key_extension.Goals as goal

pub returns-clause-writes : goal.returns-clause-writes
returns-clause-writes c = λ m text w.
    extension_as (λ n. WritesWrapped n sequence_tag (WritesString n (context 0) c.as_slice-octets.result.now)) refl c.encode-oid.ensures.tag (search rules) refl refl
    (λ content x. key_as refl refl c.as_slice-octets.ensures.octets x) w

pub returns-clause-whole : goal.returns-clause-whole
returns-clause-whole c = λ m text w.
    extension_back (λ n. WritesWrapped n sequence_tag (WritesString n (context 0) c.as_slice-octets.result.now)) refl c.encode-oid.ensures.tag (search rules) refl refl
    (λ content x. key_back refl refl c.as_slice-octets.ensures.octets x) w
