use Rattle.std.proofs.Common.{◌<◌, ◌+◌, ◌^◌, ℕ, List, unwrap_or, subst, arith}
use Rattle.std.proofs.lemmas.Grind.{common_steps}
use Rattle.rpki_walk.specs.Tallied.{Bumps, told}
use Rattle.rpki_walk.proofs.Adding.{added_next}
use Rattle.rpki_walk.proofs.cost.tally.Tally.add.Goals as goal

pub loop-authority-preserved : goal.loop-authority-preserved
loop-authority-preserved c =
    let inv = c.loop-authority.invariant in
    let old = c.args.self.now.counts in
    let mid = c.loop-authority.self.counts in
    let new = c.bump.new.counts in
    let us = c.args.above.now in
    let i = c.loop-authority.authority-index in
    let d = c.authority-item.result in
    let room : c.args.self.now.spent + 1 < 2 ^ 64 = grind (arith, common_steps) in
    let bump = subst (λ (u : List ℕ). unwrap_or (told mid u) 0 + 1 < 2 ^ 64 → Bumps mid new u) c.authority-item.is c.in_ok-bump.ensures in
    record {
      spent = inv.spent;
      budget = inv.budget;
      added = λ once few. added_next old mid new us i d c.args.self.now.spent c.loop-authority-test.true once few room (inv.added once few) bump;
    }
