use Rattle.bcder_values.proofs.frame.open_len.Goals as goal
use Rattle.std.proofs.Common.{◌++◌, ◌∷◌, [], take, refl, arith}
use Rattle.std.proofs.lemmas.Grind.{common_steps}

pub returns-clause-len : goal.returns-clause-len
returns-clause-len c =
    let i = take c.encoded-count.result.1 c.encoded-count.result.0 in
    record { text = i ++ (128 ∷ []); is = record { identifier = i; tag = c.requires; identifier_is = c.encoded-count.ensures.identifier; whole = refl }; long = grind (arith, common_steps) }
