use Rattle.std.proofs.Common.{subst}
use Rattle.certs.specs.certs_basics.Keys.{HasEncoding, KeyValue}
use Rattle.certs.proofs.again.lawful.key_is.Goals as goal

pub returns : goal.returns
returns c =
    subst (λ (k : KeyValue). HasEncoding k) c.subject_public_key_info.ensures
    (record { octets = c.encoded-octets.result.now; encodes = c.encoded-octets.ensures.der })
