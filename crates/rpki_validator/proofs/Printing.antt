-- The text of a report is a world's output where its lines are the world's.
use Rattle.std.proofs.Common.{◌≡◌, ℕ, Vec, Global, Result, Ok, Err, IfOk}
use Rattle.rpki_validator.specs.rpki_rules.World.{World}
use Rattle.rpki_validator.specs.rpki_rules.Output.{IsOutput}
use Rattle.rpki_validator.specs.rpki_rules.Report.{ReportValue}
use Rattle.rpki_validator.specs.rpki_rules.Texts.{report_text}
use Rattle.rpki_validator.specs.rpki_walk.Printed.{AreLines}

pub lines_output : {E : Type 0} (r : Result (Vec ℕ Global) E) (report : ReportValue) → IfOk r (λ text. text.items ≡ report_text report) → IfOk r (λ text. (w : World) → AreLines w report → IsOutput w text.items)
lines_output (Ok text) report e = λ w h. record {
  origins = report.origins;
  customers = report.customers;
  refusals = report.refusals;
  origins_are = h.origins_are;
  customers_are = h.customers_are;
  refusals_are = h.refusals_are;
  whole = e;
}
lines_output (Err x) report e = tt
