-- What a report holds, and when it is that of a world.
use Rattle.std.specs.Prelude.{◌≢◌, ◌↔◌, ℕ, List, [], map}
use Rattle.std.specs.declared.cmp.Ordering.{Ordering}
use Rattle.std.specs.List.Sorted.{IsStrictlySortedBy}
use Rattle.rpki_rules.specs.Words.{Mem, Each, Ascending}
use Rattle.rpki_rules.specs.World.{World}
use Rattle.rpki_rules.specs.Attests.{Origin, Provision, WitnessValue, IsWitness}
use Rattle.rpki_rules.specs.Lines.{Customer, Refusal, origin_cmp, refusal_cmp}
use Rattle.rpki_rules.specs.Output.{AreOrigins, AreCustomers, AreRefusals}
use Rattle.rpki_rules.specs.Views.{witness_cmp}

pub record ReportValue : Type 0 where
  pub origins : List Origin
  pub customers : List Customer
  pub refusals : List Refusal
  pub witnesses : List WitnessValue

-- The members of a list, each once, in order.
pub record IsSetOf {X : Type 0} (cmp : X → X → Ordering) (xs ys : List X) : Type 0 where
  pub ascend : IsStrictlySortedBy cmp ys
  pub exact : (x : X) → Mem ys x ↔ Mem xs x

-- The customer's providers are all that P says of it, in order, and there is one.
pub record IsCustomerOf (P : Provision → Type 0) (c : Customer) : Type 0 where
  pub ascending : Ascending c.providers
  pub some : c.providers ≢ []
  pub exact : (p : ℕ) → Mem c.providers p ↔ P (record { customer = c.number; provider = p })

-- Exactly the customers that P says something of, each once, in order.
pub record AreCustomersOf (P : Provision → Type 0) (cs : List Customer) : Type 0 where
  pub ascending : Ascending (map (λ c. c.number) cs)
  pub each : Each (IsCustomerOf P) cs
  pub complete : (x : Provision) → P x → Mem (map (λ c. c.number) cs) x.customer

-- The report of what was found, in any order and any number of times.
pub record IsReportOf (origins : List Origin) (provisions : List Provision)
    (refusals : List Refusal) (witnesses : List WitnessValue) (r : ReportValue) : Type 0 where
  pub origins_are : IsSetOf origin_cmp origins r.origins
  pub customers_are : AreCustomersOf (Mem provisions) r.customers
  pub refusals_are : IsSetOf refusal_cmp refusals r.refusals
  pub witnesses_are : IsSetOf witness_cmp witnesses r.witnesses

-- Exactly the good witnesses, each once, in order.
pub record AreWitnesses (w : World) (ts : List WitnessValue) : Type 0 where
  pub ascend : IsStrictlySortedBy witness_cmp ts
  pub exact : (t : WitnessValue) → Mem ts t ↔ IsWitness w t

-- The report of a world: all that is attested and refused in it.
pub record IsReport (w : World) (r : ReportValue) : Type 0 where
  pub origins_are : AreOrigins w r.origins
  pub customers_are : AreCustomers w r.customers
  pub refusals_are : AreRefusals w r.refusals
  pub witnesses_are : AreWitnesses w r.witnesses
