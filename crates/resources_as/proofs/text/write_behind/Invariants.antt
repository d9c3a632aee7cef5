use Rattle.std.proofs.Common.{◌≡◌, ℕ, List, ◌++◌}
use Rattle.std.specs.Prelude.{codes}
use Rattle.std.specs.List.{flat_map}
use Rattle.std.specs.Fmt.{HasWritten, IsPlainFormatter}
use Rattle.resources_asn.specs.Blocks.{run_text}
use Rattle.resources_as.proofs.text.write_behind.Given as goal

abbrev pub invariant-loop-block : goal.invariant-loop-block
invariant-loop-block g l =
    (text : List ℕ) × (text ++ flat_map (λ r. codes ", " ++ run_text r) l.block-iterator ≡ flat_map (λ r. codes ", " ++ run_text r) l.initial.block-iterator) × (IsPlainFormatter l.initial.f → HasWritten g.W.Write.write_str_gives l.initial.f text l.f)
