-- What is printed of origins and customers outside what is reached.
use Rattle.std.specs.Prelude.{◌↔◌, ℕ, List}
use Rattle.rpki_rules.specs.resources.Resources.{Resources}
use Rattle.rpki_rules.specs.Words.{Mem}
use Rattle.rpki_rules.specs.World.{World}
use Rattle.rpki_rules.specs.Attests.{Origin}
use Rattle.rpki_rules.specs.Lines.{Customer}
use Rattle.rpki_rules.specs.Output.{IsOutput}
use Rattle.rpki_rules.specs.Reach.{IsOriginInside, IsCustomerInside, Forged}

-- The origins whose prefixes don't lie in the sets are printed by both texts or by none, and so are the customers outside,
-- with the same providers.
pub record AreAlikeOutside (r : Resources) (w w' : World) (text text' : List ℕ)
    (o : IsOutput w text) (o' : IsOutput w' text') : Type 0 where
  pub origins : (x : Origin) → ¬ (IsOriginInside r x) → Mem o.origins x ↔ Mem o'.origins x
  pub customers : (c : Customer) → ¬ (IsCustomerInside r c.number)
      → Mem o.customers c ↔ Mem o'.customers c

-- Where worlds agree but at some URIs, and the sets have all that is reached by these, the outputs are alike outside.
abbrev pub OutsideStays : Type 0
OutsideStays =
    (uris : List (List ℕ)) (r : Resources) (w w' : World) → Forged uris r w w'
    → (text text' : List ℕ) (o : IsOutput w text) (o' : IsOutput w' text') →
    AreAlikeOutside r w w' text text' o o'
