use Rattle.std.proofs.Common.{List, ℕ, ◌++◌, rules}
use Rattle.std.specs.Prelude.{codes}
use Rattle.std.specs.Fmt.{HasWritten}
use Rattle.std.proofs.Output.{has_written_append}
use Rattle.resources_asn.specs.Blocks.{as_run, run_text}
use Rattle.resources_as.proofs.of_resources_chain.ListTexts.{piece_printed}
use Rattle.resources_as.proofs.text.write_behind.Goals as goal

pub loop-block-preserved : goal.loop-block-preserved
loop-block-preserved g c =
    let before = c.loop-block.invariant in
    let text : List ℕ = codes ", " ++ run_text (as_run c.in-Some.block) in (
      before.0 ++ text,
      piece_printed run_text before.0 _ c.loop-block.block-iterator c.next.new.self (as_run c.in-Some.block) before.1 c.in-Some.ensures.steps,
      λ plain. has_written_append _ _ _ _ _ _ (before.2 plain) (let one : HasWritten {W = g.row.W.Denot} g.W.Write.write_str_gives c.loop-block.f text c.write.new.self = search rules in one),
    )
