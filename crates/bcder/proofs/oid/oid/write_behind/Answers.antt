use Rattle.std.proofs.Common.{List, ℕ, ◌∷◌, ◌++◌, rules}
use Rattle.std.specs.Fmt.{HasWritten}
use Rattle.std.proofs.Output.{has_written_append}
use Rattle.bcder.specs.Components.{number_of}
use Rattle.bcder.specs.Printed.{component_text}
use Rattle.bcder.proofs.Lines.{one_more}
use Rattle.bcder.proofs.oid.oid.write_behind.Goals as goal

pub loop-component-preserved : goal.loop-component-preserved
loop-component-preserved g c =
    let before = c.loop-component.invariant in
    let text : List ℕ = 46 ∷ component_text (number_of c.in-Some.component) in (
      before.0 ++ text,
      one_more before.0 _ c.loop-component.component-iterator c.next.new.self (number_of c.in-Some.component) before.1 c.in-Some.ensures.steps,
      λ plain. has_written_append _ _ _ _ _ _ (before.2 plain) (let one : HasWritten {W = g.row.W.Denot} g.W.Write.write_str_gives c.loop-component.f text c.write.new.self = search rules in one),
    )
