use Rattle.std.proofs.Common.{◌∙◌}
use Rattle.rpki_walk.proofs.Reports.{show_gains}
use Rattle.rpki_walk.proofs.whole.FindingsVisitor.show.Goals as goal

pub returns-clause-gained : goal.returns-clause-gained
returns-clause-gained g c =
    show_gains c.args.self.now (record { lines = c.show.new.self; witnesses = c.push.new.self }) (record { locator = c.args.path.now.value.locator; chain = c.args.path.now.value.chain.items; object = c.args.object.now }) (g.S.Repository.payload c.args.payload) c.new.result
    (c.new.ensures ∙ λ i. record { locator = (c.in_ok-clone.ensures.cases i).locator; chain = (c.in_ok-clone.ensures.cases i).chain.items; object = c.in_ok-clone-2.ensures.cases i })
    c.in_ok-show.ensures c.in_ok-push.ensures.items
