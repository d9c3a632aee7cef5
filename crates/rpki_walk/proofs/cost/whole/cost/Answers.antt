use Rattle.std.proofs.Common.{◌<◌, ◌≤◌, ℕ, Bool, true, List, [], take_all, get_or, refl, subst, ◌∙◌, inl, inr}
use Rattle.rpki_walk.specs.rpki_bundle.declared.parts.Locator.{Locator}
use Rattle.rpki_rules.specs.World.{World}
use Rattle.rpki_walk.specs.Repository.{locator_at}
use Rattle.rpki_walk.specs.Tallied.{Counts, IsOf, Tallies}
use Rattle.rpki_walk.proofs.Costs.{cost_cut, cost_exact, locator_fresh, of_some}
use Rattle.rpki_walk.proofs.Tallies.{UpTo, tallies_cut, tallies_next, tallies_none}
use Rattle.rpki_walk.proofs.cost.whole.cost.Goals as goal

pub loop-at-init : goal.loop-at-init
loop-at-init g c = record {
  same = refl;
  lender = refl;
  budget = c.new-tally.ensures.budget;
  counted = tallies_none (UpTo (λ c. ⊥) (IsOf (g.S.Repository.world c.args.repository.now)) []) [] c.new-tally.result (λ x h. elim h [ inl n ↦ n | inr q ↦ q.1 ]) c.new-tally.ensures.tally;
}

pub loop-at-preserved : goal.loop-at-preserved
loop-at-preserved g c =
    let w = g.S.Repository.world c.args.repository.now in
    let inv = c.loop-at.invariant in
    let at = c.loop-at.at in
    let d : Locator = record { name = []; text = [] } in
    let l = subst (λ (n : ℕ). at < n) c.locator_count-at-end.ensures.count c.loop-at-test.true in
    let mid = c.loop-at.tally in
    let new = c.count_at.new.tally in
    let fresh = locator_fresh w at d l c.locator_count-at-end.ensures.apart mid inv.counted in
    let counts = subst (λ (b : Bool). Counts (IsOf w (get_or w.locators at d)) mid new b) c.if-not-branch.false (subst (λ (v : World). Counts (IsOf v (locator_at v at)) mid new c.in_ok-count_at.field-0) inv.same c.in_ok-count_at.ensures.facts) in
    record {
      same = c.in_ok-count_at.ensures.same ∙ inv.same;
      lender = c.in_ok-count_at.ensures.lender ∙ inv.lender;
      budget = c.in_ok-count_at.ensures.budget ∙ inv.budget;
      counted = tallies_next (λ x. ⊥) (IsOf w) w.locators at d l [] mid inv.counted new (counts inv.counted.chains inv.counted.tally fresh);
    }

pub returns-clause-cost : goal.returns-clause-cost
returns-clause-cost g c =
    let w = g.S.Repository.world c.args.repository.now in
    let t = c.loop-at.tally in
    let inv = c.loop-at.invariant in
    let all = subst (λ (ls : List Locator). Tallies (UpTo (λ x. ⊥) (IsOf w) ls) [] t true) (take_all c.loop-at.at w.locators (subst (λ (n : ℕ). n ≤ c.loop-at.at) c.locator_count-at-end.ensures.count c.loop-at-test.false)) inv.counted in
    cost_exact w c.args.budget t inv.budget c.in_ok-counts-2.field-0 c.in_ok-counts-2.ensures.listed c.in_ok-counts-2.ensures.ascend (UpTo (λ x. ⊥) (IsOf w) w.locators) (of_some w) all

pub returns-then-not-branch-clause-cost : goal.returns-then-not-branch-clause-cost
returns-then-not-branch-clause-cost g c =
    let w = g.S.Repository.world c.args.repository.now in
    let inv = c.loop-at.invariant in
    let at = c.loop-at.at in
    let d : Locator = record { name = []; text = [] } in
    let l = subst (λ (n : ℕ). at < n) c.locator_count-at-end.ensures.count c.loop-at-test.true in
    let mid = c.loop-at.tally in
    let new = c.count_at.new.tally in
    let fresh = locator_fresh w at d l c.locator_count-at-end.ensures.apart mid inv.counted in
    let counts = subst (λ (b : Bool). Counts (IsOf w (get_or w.locators at d)) mid new b) c.if-not-branch.true (subst (λ (v : World). Counts (IsOf v (locator_at v at)) mid new c.in_ok-count_at.field-0) inv.same c.in_ok-count_at.ensures.facts) in
    let cut = tallies_cut (λ x. ⊥) (IsOf w) w.locators at d l [] mid inv.counted new (counts inv.counted.chains inv.counted.tally fresh) in
    cost_cut w c.args.budget new (c.in_ok-count_at.ensures.budget ∙ inv.budget) c.in_ok-counts.field-0 c.in_ok-counts.ensures.listed c.in_ok-counts.ensures.ascend (UpTo (λ x. ⊥) (IsOf w) w.locators) (of_some w) cut
