use Rattle.bcder_values.proofs.items.len_of_item.Goals as goal

pub returns-clause-one : goal.returns-clause-one
returns-clause-one g c = λ a b p q.
    let writes = c.values_of-values.ensures.writes c.args.mode in
    g.met.E.Given.Values.one_text c.values_of-values.result c.args.mode a b ((writes a).1 p) ((writes b).1 q)
