use Rattle.std.proofs.Common.{◌≤◌, rules, ◌∙◌}
use Rattle.bcder_source.proofs.Moves.{moved_on, drop_moved}
use Rattle.bcder_source.proofs.limited.LimitedSourceSource.advance.Goals as goal

pub returns-clause-moved : goal.returns-clause-moved
returns-clause-moved g c =
    let e = c.advance-2.ensures in
    let within : c.args.len ≤ c.in-Some.limit = search rules in
    let m = moved_on (g.S.Source.rest c.args.self.now.source) (g.S.Source.rest c.advance-2.new.self) c.args.len c.in-Some.limit e.rest e.there within in
    record { rest = m.rest; limit = c.in-Some.is ∙ m.limit }

pub returns-clause-rest : goal.returns-clause-rest
returns-clause-rest g c = drop_moved c.args.len c.advance-2.ensures.there (returns-clause-moved g c)
