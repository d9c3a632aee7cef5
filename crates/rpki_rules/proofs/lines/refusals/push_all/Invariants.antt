use Rattle.std.proofs.Common.{◌≡◌, ◌++◌, take}
use Rattle.std.specs.Prelude.{flat_map}
use Rattle.rpki_rules.specs.Lines.{refusal_line}
use Rattle.rpki_rules.specs.Views.{refusal_of}
use Rattle.rpki_rules.proofs.lines.refusals.push_all.Given as goal

abbrev pub invariant-loop-refusal : goal.invariant-loop-refusal
invariant-loop-refusal l = l.text.items ≡ l.initial.text.items ++ flat_map (λ x. refusal_line (refusal_of x)) (take l.refusal-index l.refusals)
