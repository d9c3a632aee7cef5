-- What a walk for lines reports.
use Rattle.std.specs.Prelude.{◌≡◌, []}
use Rattle.rpki_rules.specs.World.{World}
use Rattle.rpki_rules.specs.Output.{AreOrigins, AreCustomers, AreRefusals}
use Rattle.rpki_rules.specs.Report.{ReportValue}

-- The lines of a world: all that is attested and refused in it, as in its report, and no witness.
pub record AreLines (w : World) (r : ReportValue) : Type 0 where
  pub origins_are : AreOrigins w r.origins
  pub customers_are : AreCustomers w r.customers
  pub refusals_are : AreRefusals w r.refusals
  pub witnesses_are : r.witnesses ≡ []
