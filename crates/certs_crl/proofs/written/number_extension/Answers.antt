use Rattle.std.proofs.Common.{refl, rules, ◌∙◌}
use Rattle.certs_x509.specs.bcder_number.Integers.{IsNatural}
use Rattle.certs_x509.specs.bcder_primitive.Encoded.{WritesPlain}
use Rattle.certs_crl.proofs.Alone.{extension_back, number_back}
use Rattle.certs_crl.proofs.Writing.{extension_as, number_as}
use Rattle.certs_crl.proofs.written.number_extension.Goals as goal

pub returns-clause-writes : goal.returns-clause-writes
returns-clause-writes c = λ m text w.
    extension_as (λ n. WritesPlain n c.encode-value.result.tag (λ content. IsNatural content c.encode-value.result.content)) refl c.encode-oid.ensures.tag (search rules) refl refl
    (λ content x. number_as c.number_of.ensures.small c.encode-value.ensures.tag (c.encode-value.ensures.content ∙ c.number_of.ensures.same) x) w

pub returns-clause-whole : goal.returns-clause-whole
returns-clause-whole c = λ m text w.
    extension_back (λ n. WritesPlain n c.encode-value.result.tag (λ content. IsNatural content c.encode-value.result.content)) refl c.encode-oid.ensures.tag (search rules) refl refl
    (λ content x. number_back c.encode-value.ensures.tag (c.encode-value.ensures.content ∙ c.number_of.ensures.same) x) w
