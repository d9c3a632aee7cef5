use Rattle.std.proofs.Common.{List, ℕ, Some, subst}
use Rattle.std.specs.Fmt.{DisplaysOnOk}
use Rattle.resources_ip_prefix.specs.Text.{v6_text}
use Rattle.resources_ip_block.specs.Block.{run_of_block}
use Rattle.resources_ip_block.proofs.PrintLemmas.{text_is}
use Rattle.resources_ip_block.proofs.text.DisplayV6BlockDisplay.fmt.Goals as goal

pub returns-clause-writes : goal.returns-clause-writes
returns-clause-writes g c =
    let shown = c.fmt_v6.ensures in
    subst (λ (text : List ℕ). DisplaysOnOk {W = g.row.W.Denot} g.W.Write.write_str_gives c.args.f.now c.fmt_v6.result (Some text) c.fmt_v6.new.f) (text_is v6_text (run_of_block c.args.self.now.0) shown.0 shown.1) shown.2
