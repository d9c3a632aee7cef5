use Rattle.std.proofs.Common.{refl}
use Rattle.certs_crl.proofs.Writing.{both_as, wrapped_as}
use Rattle.certs_crl.proofs.written.extensions.Goals as goal

pub returns-clause-writes : goal.returns-clause-writes
returns-clause-writes c = λ m text w.
    wrapped_as refl (λ o v. wrapped_as refl (λ p u. both_as (λ q k. c.key_extension-first.ensures.writes m q k) (λ q k. c.number_extension-second.ensures.writes m q k) u) v) w

pub returns-clause-whole : goal.returns-clause-whole
returns-clause-whole c = λ m text w.
    wrapped_as refl (λ o v. wrapped_as refl (λ p u. both_as (λ q k. c.key_extension-first.ensures.whole m q k) (λ q k. c.number_extension-second.ensures.whole m q k) u) v) w
