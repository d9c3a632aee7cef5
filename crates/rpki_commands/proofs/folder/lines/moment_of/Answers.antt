use Rattle.std.proofs.Common.{◌≡◌, length, sym, ◌∙◌, subst}
use Rattle.rpki_commands.proofs.of_bcder_tree.Unique.{by_length}
use Rattle.rpki_commands.specs.certs_basics.Times.{IsMoment}
use Rattle.rpki_commands.proofs.Moments.{moment_length}
use Rattle.rpki_validator.proofs.Options.{none_then}
use Rattle.rpki_commands.proofs.Splits.{split_whole}
use Rattle.rpki_commands.proofs.folder.lines.moment_of.Goals as goal

pub returns-clause-none : goal.returns-clause-none
returns-clause-none c = none_then c.from_generalized.result c.from_generalized.ensures.none (λ lacks moment i.
    let front = c.in-Some.ensures.cases in
    let size : length i.line ≡ length c.in-Some.line.now =
    moment_length i.line moment i.line_is ∙ sym front.3 in
    let whole = split_whole 15 c.args.text.now c.in-Some.line.now c.in-Some.end.now front.1 front.2 in
    let same = by_length i.line c.in-Some.line.now i.end c.in-Some.end.now size (sym i.whole ∙ whole) in
    lacks moment (subst (λ s. IsMoment s moment) same.front i.line_is))
