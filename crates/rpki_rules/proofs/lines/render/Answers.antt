use Rattle.rpki_rules.specs.Lines.{origin_line, customer_line, refusal_line}
use Rattle.rpki_rules.specs.Views.{origin_of, customer_of, refusal_of}
use Rattle.rpki_rules.proofs.Pieces.{report_whole, shown, output_of}
use Rattle.rpki_rules.proofs.lines.render.Goals as goal

pub returns-clause-lines : goal.returns-clause-lines
returns-clause-lines c = report_whole c.args.report.now _ _ _ _ _ _ _ c.new-text.ensures.items c.in_ok-push_all.ensures c.in_ok-push_all-2.ensures c.in_ok-push_all-3.ensures (shown origin_line origin_of _ _ c.origins.ensures) (shown customer_line customer_of _ _ c.customers.ensures) (shown refusal_line refusal_of _ _ c.refusals.ensures)

pub returns-clause-output : goal.returns-clause-output
returns-clause-output c = λ w is. output_of w c.args.report.now _ (returns-clause-lines c) is
