use Rattle.std.proofs.Common.{ℕ, ◌≤◌, ◌<◌, ◌⊎◌, ◌↔◌, List, [], take_all, sym, subst, ◌∙◌}
use Rattle.rpki_walk.specs.rpki_bundle.declared.parts.Locator.{Locator}
use Rattle.rpki_rules.specs.Words.{Mem}
use Rattle.rpki_rules.specs.World.{World}
use Rattle.rpki_walk.specs.Repository.{locator_at}
use Rattle.rpki_walk.specs.Facts.{Gains, FromLocator, IsFinding}
use Rattle.rpki_walk.proofs.Mems.{gains_same, gains_next}
use Rattle.rpki_walk.proofs.Leading.{told_is}
use Rattle.rpki_walk.proofs.anchors.walk_all.Goals as goal

pub loop-at-preserved : goal.loop-at-preserved
loop-at-preserved g c =
    let w = g.S.Repository.world c.args.repository.now in
    let uris = g.V.Visitor.uris c.args.visitor.now in
    let inv = c.loop-at.invariant in
    let at = c.loop-at.at in
    let old = g.V.Visitor.has c.loop-at.visitor in
    let new = g.V.Visitor.has c.walk_locator.new.visitor in
    let h = subst (λ (v : World). Gains g.V.Visitor.wants old (FromLocator (g.V.Visitor.uris c.loop-at.visitor) v (locator_at v at)) new) inv.same c.in_ok-walk_locator.ensures.gained in
    let k = subst (λ (us : List (List ℕ)). Gains g.V.Visitor.wants old (FromLocator us w (locator_at w at)) new) inv.kept h in
    record {
      same = c.in_ok-walk_locator.ensures.same ∙ inv.same;
      lender = c.in_ok-walk_locator.ensures.lender ∙ inv.lender;
      kept = c.in_ok-walk_locator.ensures.kept ∙ inv.kept;
      gained = gains_next g.V.Visitor.wants (g.V.Visitor.has c.args.visitor.now) old new (λ x. ⊥) (FromLocator uris w) w.locators at (record { name = []; text = [] }) (subst (λ (n : ℕ). at < n) c.locator_count-at-end.ensures.count c.loop-at-test.true) inv.gained k;
    }

pub returns-clause-gained : goal.returns-clause-gained
returns-clause-gained g c =
    let w = g.S.Repository.world c.args.repository.now in
    let uris = g.V.Visitor.uris c.args.visitor.now in
    gains_same g.V.Visitor.wants _ _ _ _ c.loop-at.invariant.gained (λ x.
    subst (λ (ls : List Locator). (⊥ ⊎ ((u : Locator) × Mem ls u × FromLocator uris w u x)) ↔ IsFinding uris w x)
    (sym (take_all c.loop-at.at w.locators (subst (λ (n : ℕ). n ≤ c.loop-at.at) c.locator_count-at-end.ensures.count c.loop-at-test.false)))
    (told_is uris w c.locator_count-at-end.ensures.apart x))
