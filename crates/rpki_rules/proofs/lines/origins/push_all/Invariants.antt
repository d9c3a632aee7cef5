use Rattle.std.proofs.Common.{◌≡◌, ◌++◌, take}
use Rattle.std.specs.Prelude.{flat_map}
use Rattle.rpki_rules.specs.Lines.{origin_line}
use Rattle.rpki_rules.specs.Views.{origin_of}
use Rattle.rpki_rules.proofs.lines.origins.push_all.Given as goal

abbrev pub invariant-loop-origin : goal.invariant-loop-origin
invariant-loop-origin l = l.text.items ≡ l.initial.text.items ++ flat_map (λ x. origin_line (origin_of x)) (take l.origin-index l.origins)
