use Rattle.std.proofs.Common.{List, [], ◌∷◌, ◌++◌, map, ap, ◌∙◌}
use Rattle.resources_chain.specs.Sets.{Run}
use Rattle.resources_chain.proofs.WalkLemmas.{snoc_runs, adds_at, add_joined, add_apart}
use Rattle.resources_chain.proofs.walk.add.Goals as goal

pub returns-in_ok-push-in-Some-sum : goal.returns-in_ok-push-in-Some-sum
returns-in_ok-push-in-Some-sum g c =
    let run = g.B.Block.run in
    let front = c.pop.new.self.items in
    let last = c.in-Some.last in
    let joined = c.in-Some-sum.joined in
    adds_at (snoc_runs run front last c.in-Some.ensures.items) (snoc_runs run front joined c.in_ok-push-in-Some-sum.ensures.items)
    (λ m b. add_joined (map run front) (run last) (run c.args.block) (run joined) m b (g.met.B.Block.run_within joined).0 c.in-Some-sum.ensures.1)
    c.requires.maximal c.requires.order

pub returns-in_ok-push-in-None-2 : goal.returns-in_ok-push-in-None-2
returns-in_ok-push-in-None-2 g c =
    let run = g.B.Block.run in
    let front = c.pop.new.self.items in
    let last = c.in-Some.last in
    let block = c.args.block in
    let before = snoc_runs run front last c.in_ok-push-in-None.ensures.items in
    let all = snoc_runs run c.push-in-None.new.self.items block c.in_ok-push-in-None-2.ensures.items in
    adds_at (snoc_runs run front last c.in-Some.ensures.items) (all ∙ ap (λ (s : List Run). s ++ run block ∷ []) before)
    (λ m b. add_apart (map run front) (run last) (run block) m b (g.met.B.Block.run_within block).0 c.in-None.ensures)
    c.requires.maximal c.requires.order
