use Rattle.std.proofs.Common.{◌≡◌, true, false, sym, ap, ◌∙◌}
use Rattle.std.specs.Prelude.{is_some}
use Rattle.certs_x509.specs.certs_extension.CrlText.{CrlValue}
use Rattle.certs_crl.proofs.Cached.{looked_up}
use Rattle.certs_crl.proofs.crl.Crl.cached_position.Goals as goal

pub returns-in-Some-clause-cached : goal.returns-in-Some-clause-cached
returns-in-Some-clause-cached c = λ t.
    looked_up c.args.self.now (ap (λ (z : CrlValue). z.tbs.revoked) c.self.view_is) c.self.invariant c.in-Some.is c.position.ensures.probes c.position.ensures.place

pub returns-in-Some-clause-uncached : goal.returns-in-Some-clause-uncached
returns-in-Some-clause-uncached c = λ f.
    let wrong : true ≡ false = ap is_some (sym c.in-Some.is) ∙ ap (λ (z : CrlValue). z.caches) c.self.view_is ∙ f in
    absurd cc

pub returns-in-None-clause-cached : goal.returns-in-None-clause-cached
returns-in-None-clause-cached c = λ t.
    let wrong : false ≡ true = ap is_some (sym c.in-None.is) ∙ ap (λ (z : CrlValue). z.caches) c.self.view_is ∙ t in
    absurd cc
