use Rattle.std.proofs.Common.{◌≡◌, ℕ, List, ◌++◌}
use Rattle.std.specs.Fmt.{HasWritten, IsPlainFormatter}
use Rattle.std.specs.Prelude.{encode_utf8_all}
use Rattle.bcder.proofs.string.string.RestrictedStringDisplay.fmt.Given as goal

abbrev pub invariant-loop-character : goal.invariant-loop-character
invariant-loop-character g l =
    (text : List ℕ) × (text ++ encode_utf8_all l.character-iterator ≡ encode_utf8_all l.initial.character-iterator) × (IsPlainFormatter l.initial.f → HasWritten g.W.Write.write_str_gives l.initial.f text l.f)
