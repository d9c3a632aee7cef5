use Rattle.std.proofs.Common.{◌≡◌, ℕ, ◌↔◌, Bool, IsTrue, List, ap, sym, subst, ◌∙◌}
use Rattle.rpki_walk.specs.Repository.{locator_at}
use Rattle.rpki_walk.specs.Naming.{LocatorNames, names_any}
use Rattle.rpki_walk.proofs.Named.{locator_some, locator_none}
use Rattle.rpki_walk.proofs.reach.locators.locator_names.Goals as goal

pub returns-in-Some : goal.returns-in-Some
returns-in-Some g c =
    let uris = c.args.wanted.now in
    let l = locator_at (g.S.Repository.world c.args.repository.now) c.args.at in
    let e : c.names_any.result ≡ names_any uris c.in-Some.keys.items = c.names_any.ensures ∙ ap (λ (ks : List (List ℕ)). names_any uris ks) c.deref.ensures.value in
    subst (λ (b : Bool). IsTrue b ↔ LocatorNames uris l) (sym e) (locator_some uris l c.in_ok-keys.field-0 c.in-Some.keys c.in-Some.is c.in_ok-keys.ensures)

pub returns-in-None : goal.returns-in-None
returns-in-None g c = locator_none c.args.wanted.now (locator_at (g.S.Repository.world c.args.repository.now) c.args.at) c.in_ok-keys.field-0 c.in-None.is c.in_ok-keys.ensures
