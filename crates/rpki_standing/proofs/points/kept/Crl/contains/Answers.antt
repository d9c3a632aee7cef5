use Rattle.rpki_standing.proofs.Revoking.{on_read}
use Rattle.rpki_standing.proofs.points.kept.Crl.contains.Goals as goal

pub returns : goal.returns
returns c = on_read c.args.self.now c.self.inside.list c.self.view_is c.contains.ensures
