use Rattle.std.proofs.Common.{length}
use denote.Text.{Utf8}
use denote.Shadow.{shadow}
use Rattle.bcder.proofs.Dots.{Going}
use Rattle.bcder.proofs.oid.text.read_numbers.Given as goal

abbrev pub invariant-loop-numbers : goal.invariant-loop-numbers
invariant-loop-numbers l = record { text : shadow (Utf8 l.rest); going : Going l.text l.numbers.items l.rest }

abbrev pub decreases-loop-numbers : goal.decreases-loop-numbers
decreases-loop-numbers l = length l.rest
