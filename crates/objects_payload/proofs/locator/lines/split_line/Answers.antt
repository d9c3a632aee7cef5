use Rattle.std.proofs.Common.{◌+◌, List, ℕ, take, drop, sym, subst, arith}
use Rattle.std.proofs.lemmas.List.{take_rest}
use Rattle.objects_payload.specs.Lines.{HasLine}
use Rattle.objects_payload.proofs.LineTexts.{feeds_here, feeds_nowhere, line_is}
use Rattle.objects_payload.proofs.locator.lines.split_line.Goals as goal

pub returns-then-len-text : goal.returns-then-len-text
returns-then-len-text c =
    let text = c.args.text.now in
    let n = c.line_len-len.result in
    let f = feeds_here text n c.line_len-len.ensures.place (omega arith) in
    subst (λ (z : List ℕ). HasLine c.without_return.result.now z text) (sym (take_rest text (n + 1))) (line_is c.without_return.result.now (drop (n + 1) text) (take n text) text f.before c.without_return.ensures f.whole)

pub returns-else-len-text : goal.returns-else-len-text
returns-else-len-text c = feeds_nowhere c.args.text.now c.line_len-len.result c.line_len-len.ensures.place (omega arith)
