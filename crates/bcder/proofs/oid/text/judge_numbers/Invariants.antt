use Rattle.std.proofs.Common.{ℕ, List, length}
use denote.Text.{Utf8}
use denote.Shadow.{shadow}
use Rattle.bcder.proofs.Dots.{Going}
use Rattle.bcder.proofs.oid.text.judge_numbers.Given as goal

abbrev pub invariant-loop-behind : goal.invariant-loop-behind
invariant-loop-behind l = record { text : shadow (Utf8 l.rest); done : List ℕ; going : Going l.text done l.rest }

abbrev pub decreases-loop-behind : goal.decreases-loop-behind
decreases-loop-behind l = length l.rest
