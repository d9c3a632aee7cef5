use Rattle.certs_crl.proofs.Cached.{cached_by}
use Rattle.certs_crl.proofs.crl.Crl.cache_serials.Goals as goal

pub invariant_of-self : goal.invariant_of-self
invariant_of-self c = cached_by c.in_ok-cache.cache c.revoked_certs.ensures c.in_ok-cache.ensures.same c.in_ok-cache.ensures.rises
