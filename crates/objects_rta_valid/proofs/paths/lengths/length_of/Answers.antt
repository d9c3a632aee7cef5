use Rattle.objects_rta_valid.specs.Following.{IsFollowed}
use Rattle.objects_rta_valid.specs.Runs.{Forks}
use Rattle.objects_rta_valid.proofs.KeptPaths.{match_some}
use Rattle.objects_rta_valid.proofs.Underway.{measured}
use Rattle.objects_rta_valid.proofs.paths.lengths.length_of.Goals as goal

pub returns : goal.returns
returns c =
    let steps = c.args.steps.now in
    let old = c.args.lengths.now in
    let mid = c.follow.new.lengths in
    let fresh = c.in-Some.fresh in
    let f : IsFollowed steps old mid c.args.first fresh = match_some c.in_ok-fresh.field-0 fresh (Forks steps c.args.first) (IsFollowed steps old mid c.args.first) c.in-Some.is c.in_ok-fresh.ensures in
    measured steps old mid c.measure.new.lengths c.args.first fresh.places.items fresh.before fresh.behind c.requires.measured f.fresh_are f.underway c.measure.ensures
