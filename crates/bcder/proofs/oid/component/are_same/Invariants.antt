use Rattle.std.proofs.Common.{◌≡◌, ◌↔◌, ◌+◌, ◌≤◌, length}
use Rattle.bcder.specs.Subidentifiers.{base128}
use Rattle.bcder.proofs.oid.component.are_same.Given as goal

abbrev pub invariant-loop-done : goal.invariant-loop-done
invariant-loop-done l = record {
  first_small : l.first_more ≤ 80;
  second_small : l.second_more ≤ 80;
  first_left : length l.first + l._done ≤ l.count;
  second_left : length l.second + l._done ≤ l.count;
  same : (base128 l.one + l.one_more ≡ base128 l.other + l.other_more) ↔ (base128 l.first + l.first_more ≡ base128 l.second + l.second_more);
}
