use Rattle.std.proofs.Common.{refl, rules}
use Rattle.bcder_content.proofs.Lending.{shows_back}
use Rattle.bcder_content.proofs.constructed.Constructed.run.Goals as goal

pub returns : goal.returns
returns g c =
    let k = (c.requires.keeps _ _ _ _ c.op.ensures).reference in
    (_, _, record { left_is = refl }, (let h = shows_back g.S.Source.rest c.op.new.arg3 in search rules), refl, c.op.ensures)
