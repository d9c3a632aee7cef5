use Rattle.bcder_values.proofs.Known.{known_refused}
use Rattle.bcder_values.proofs.values.Values.write_known.Goals as goal
use Rattle.std.proofs.lemmas.Result.{IfErr-weaker}

pub returns-clause-refused : goal.returns-clause-refused
returns-clause-refused g c =
    IfErr-weaker _ _ _ (λ e h. known_refused c.args.mode _ _ _ _ _ e (g.met.Self.Values.spelled c.args.self.now c.args.mode) c.requires h) c.write_encoded.ensures.refused
