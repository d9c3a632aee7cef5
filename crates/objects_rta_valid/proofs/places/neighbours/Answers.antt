use Rattle.std.proofs.Common.{ℕ, List, Option, length, subst}
use Rattle.objects_rta_valid.specs.Places.{ArePairsTo, pairs}
use Rattle.objects_rta_valid.proofs.Tables.{same_pairs}
use Rattle.objects_rta_valid.proofs.places.neighbours.Goals as goal

pub returns : goal.returns
returns c =
    same_pairs c.in_ok-behind.behind.items c.args.paths.now.count c.in_ok-found.found.items (pairs c.args.paths.now.paths) c.in_ok-behind.ensures
    (subst (λ (ls : List (Option ℕ)). ArePairsTo ls (length ls) c.in_ok-found.found.items) c.as_slice.ensures.value c.in_ok-found.ensures)
