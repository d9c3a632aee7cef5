use Rattle.std.proofs.Common.{◌≡◌, ℕ, false, true, List, sym, subst, ◌∙◌}
use Rattle.rpki_walk.specs.resources.Resources.{Resources}
use Rattle.rpki_rules.specs.Reach.{IsReach, Held}
use Rattle.rpki_walk.specs.Facts.{Reaches}
use Rattle.rpki_walk.specs.Gathered.{AreUnionOf}
use Rattle.rpki_walk.proofs.Gathered.{held_is}
use Rattle.rpki_walk.proofs.reach.whole.reach.Goals as goal

pub returns-clause-reach : goal.returns-clause-reach
returns-clause-reach g c =
    let w = g.S.Repository.world c.args.repository.now in
    let reached = held_is c.in_ok-wanted.wanted w c.new-2.result.items c.walk_all.new.visitor.sets.items c.in_ok-union.union
    (λ s. let f : false ≡ true = sym c.if-branch.false ∙ c.in_ok-some_locator_names.ensures.1 s in cc)
    c.new-2.ensures.items (λ k n. c.in_ok-walk_all.ensures.gained (Reaches k n) tt)
    (subst (λ (zs : List Resources). AreUnionOf zs c.in_ok-union.union) c.deref.ensures.value c.in_ok-union.ensures) in
    subst (λ (us : List (List ℕ)). IsReach us w (Held c.in_ok-union.union)) c.in_ok-wanted.ensures reached
