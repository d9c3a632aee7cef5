use Rattle.std.proofs.Common.{ℕ, List, OnOk, subst}
use Rattle.rpki_walk.specs.Remembered.{Remembers}
use Rattle.rpki_walk.proofs.lines.walk.LinesWalk.remember.Goals as goal

pub returns-clause-remembered : goal.returns-clause-remembered
returns-clause-remembered c =
    let old = c.args.self.now.before.walked.items in
    let new = c.push.new.self.walked.items in
    subst (λ (n : ℕ). OnOk c.push.result (Remembers old new c.args.uri.now c.args.held c.args.keys.now c.args.from n)) c.met_count-to.ensures
    (subst (λ (on : List (List ℕ)). OnOk c.push.result (Remembers old new c.args.uri.now c.args.held on c.args.from c.met_count-to.result)) c.in_ok-own.ensures c.push.ensures)
