-- The text of a report.
use Rattle.std.specs.Prelude.{ℕ, List, ◌++◌, flat_map}
use Rattle.rpki_rules.specs.Lines.{origin_line, customer_line, refusal_line}
use Rattle.rpki_rules.specs.Report.{ReportValue}

-- The lines of origins, then of customers, then of refusals.
abbrev pub report_text : ReportValue → List ℕ
report_text r = flat_map origin_line r.origins ++
    (flat_map customer_line r.customers ++ flat_map refusal_line r.refusals)
