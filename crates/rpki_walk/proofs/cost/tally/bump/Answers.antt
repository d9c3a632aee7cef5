use Rattle.std.proofs.Common.{◌≡◌, ◌+◌, unwrap_or, arith}
use Rattle.std.proofs.lemmas.Grind.{common_steps}
use Rattle.rpki_walk.specs.Tallied.{told}
use Rattle.rpki_walk.proofs.Adding.{bumped}
use Rattle.rpki_walk.proofs.cost.tally.bump.Goals as goal

pub returns : goal.returns
returns c room =
    let n = unwrap_or (told c.args.counts.now c.args.authority.now) 0 in
    let before : c.unwrap_or-before.result ≡ n = grind (arith, common_steps) in
    let next : c.saturating_add.result ≡ n + 1 = grind (arith, common_steps, before, room) in
    bumped c.args.counts.now c.insert.new.self _ c.args.authority.now c.saturating_add.result (n + 1) c.in_ok-clone.ensures.cases next c.in_ok-insert.ensures.updates
