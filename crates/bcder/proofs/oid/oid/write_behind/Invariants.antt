use Rattle.std.proofs.Common.{◌≡◌, ℕ, List, ◌++◌}
use Rattle.std.specs.Fmt.{HasWritten, IsPlainFormatter}
use Rattle.bcder.specs.Printed.{behind_dots}
use Rattle.bcder.proofs.oid.oid.write_behind.Given as goal

abbrev pub invariant-loop-component : goal.invariant-loop-component
invariant-loop-component g l =
    (text : List ℕ) × (text ++ behind_dots l.component-iterator ≡ behind_dots l.initial.component-iterator) × (IsPlainFormatter l.initial.f → HasWritten g.W.Write.write_str_gives l.initial.f text l.f)
