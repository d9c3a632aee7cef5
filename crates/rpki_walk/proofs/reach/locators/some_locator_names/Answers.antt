use Rattle.std.proofs.Common.{◌≡◌, ℕ, ◌<◌, ◌≤◌, false, true, length, refl, subst, arith}
use Rattle.rpki_walk.proofs.Named.{some_names, none_names}
use Rattle.rpki_walk.proofs.reach.locators.some_locator_names.Goals as goal

pub returns-then-branch : goal.returns-then-branch
returns-then-branch g c = (
  λ t. some_names c.args.wanted.now (g.S.Repository.world c.args.repository.now) c.loop-at.at (subst (λ (n : ℕ). c.loop-at.at < n) c.locator_count-at-end.ensures.count c.loop-at-test.true) (c.in_ok-locator_names.ensures.0 c.if-branch.true),
  λ s. refl,
)

pub returns : goal.returns
returns g c =
    let w = g.S.Repository.world c.args.repository.now in
    let past : length w.locators ≤ c.loop-at.at = subst (λ (n : ℕ). n ≤ c.loop-at.at) c.locator_count-at-end.ensures.count c.loop-at-test.false in (
      λ t. absurd (let f : false ≡ true = t in cc),
      λ s. absurd (none_names c.args.wanted.now w (λ k l. c.loop-at.invariant k (omega (arith, past, l))) s),
    )
