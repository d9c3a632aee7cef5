use Rattle.std.proofs.Common.{rules, sym, ◌∙◌}
use Rattle.std.specs.Fmt.{HasWritten}
use Rattle.std.proofs.Output.{has_written_append, has_written_of_eq}
use Rattle.resources_asn.specs.Blocks.{as_run, run_text}
use Rattle.resources_as.proofs.of_resources_chain.ListTexts.{pieces_printed}
use Rattle.resources_as.proofs.text.AsBlocksDisplay.fmt.Goals as goal

pub returns-clause-writes : goal.returns-clause-writes
returns-clause-writes g c = λ plain ok.
    let first : HasWritten {W = g.row.W.Denot} g.W.Write.write_str_gives c.args.f.now (run_text (as_run c.in-Some.first)) c.write.new.self = search rules in
    let same = pieces_printed run_text c.args.self.now c.next.new.self (as_run c.in-Some.first) (sym c.iter-blocks.ensures.runs ∙ c.in-Some.ensures.steps) in
    has_written_of_eq _ _ _ _ _ same (has_written_append _ _ _ _ _ _ first (c.write_behind.ensures first.plain ok))
