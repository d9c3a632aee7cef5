use Rattle.std.proofs.Common.{refl}
use Rattle.rpki_walk.proofs.Leading.{on_ok}
use Rattle.rpki_walk.proofs.Reports.{refuse_gains}
use Rattle.rpki_walk.proofs.whole.FindingsVisitor.refuse.Goals as goal

pub returns-clause-gained : goal.returns-clause-gained
returns-clause-gained g c =
    let old = c.args.self.now in
    on_ok c.refuse.result (refuse_gains old (record { lines = c.refuse.new.self; witnesses = old.witnesses }) c.args.name.now c.args.why refl) c.refuse.ensures
