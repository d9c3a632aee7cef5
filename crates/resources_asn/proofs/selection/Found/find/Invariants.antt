use Rattle.std.proofs.Common.{◌≡◌, ◌+◌, length}
use Rattle.resources_asn.specs.Listed.{IsAscending}
use Rattle.resources_asn.specs.Chosen.{values, is_chosen, passing}
use Rattle.resources_asn.proofs.selection.Found.find.Given as goal

abbrev pub invariant-loop-step : goal.invariant-loop-step
invariant-loop-step l = record {
  first : IsAscending (values l.first);
  second : IsAscending (values l.second);
  same : passing (is_chosen l.choice (values l.fn.first) (values l.fn.second)) ≡ passing (is_chosen l.choice (values l.first) (values l.second));
}

abbrev pub decreases-loop-step : goal.decreases-loop-step
decreases-loop-step l = length (values l.first) + length (values l.second)
