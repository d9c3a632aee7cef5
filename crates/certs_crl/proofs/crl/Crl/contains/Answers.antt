use Rattle.std.proofs.Common.{ap, ◌∙◌}
use Rattle.certs_x509.specs.certs_extension.CrlText.{CrlValue}
use Rattle.certs_crl.proofs.Cached.{cached_tells, listed_tells}
use Rattle.certs_crl.proofs.crl.Crl.contains.Goals as goal

pub returns-in-Some : goal.returns-in-Some
returns-in-Some c = cached_tells c.args.self.now (ap (λ (z : CrlValue). z.tbs.revoked) c.self.view_is) c.self.invariant c.in-Some.is c.contains.ensures

pub returns-in-None : goal.returns-in-None
returns-in-None c = listed_tells c.args.self.now (c.revoked_certs.ensures ∙ ap (λ (z : CrlValue). z.tbs.revoked) c.self.view_is) c.contains-in-None.ensures
