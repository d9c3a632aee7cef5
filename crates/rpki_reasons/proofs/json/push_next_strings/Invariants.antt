use Rattle.std.proofs.Common.{◌≡◌, ◌++◌, ◌∷◌, take}
use Rattle.std.specs.Prelude.{flat_map}
use Rattle.rpki_reasons.specs.Json.{json_string}
use Rattle.rpki_reasons.proofs.json.push_next_strings.Given as goal

abbrev pub invariant-loop-row : goal.invariant-loop-row
invariant-loop-row l = l.text.items ≡ l.initial.text.items ++ flat_map (λ row. 44 ∷ json_string row) (take l.row-index l.rows)
