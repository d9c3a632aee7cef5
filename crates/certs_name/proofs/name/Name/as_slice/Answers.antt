use Rattle.certs_name.specs.bcder_tree.Tree.{none, more}
use Rattle.certs_name.specs.bcder_values.Wraps.{one_spelled}
use Rattle.certs_name.proofs.name.Name.as_slice.Goals as goal

pub returns-clause-values : goal.returns-clause-values
returns-clause-values c =
    let says = c.self.invariant.says in
    rw (← c.self.view_is) (record { trees = more says.tree none; spelled = one_spelled _ says.tree _ says.spelled })
