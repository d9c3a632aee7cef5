use Rattle.std.proofs.lemmas.Slice.Eq.{slice_eq-Decides}
use Rattle.std.proofs.lemmas.Bool.Decides.{Decides-eqb}
use Rattle.rpki_walk.proofs.lines.remembered.is_same.Goals as goal

pub returns : goal.returns
returns c = slice_eq-Decides Decides-eqb c.args.one.now c.args.other.now c.eq.result c.eq.ensures
