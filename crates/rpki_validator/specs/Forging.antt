-- What forging the objects at some URIs can change of what a run prints.
use Rattle.std.specs.Prelude.{◌≡◌, ◌↔◌, ◌⊎◌, ℕ, List}
use Rattle.rpki_validator.specs.rpki_bundle.Bundle.{BundleValue, is_relaxed}
use Rattle.rpki_validator.specs.resources.Resources.{Resources}
use Rattle.rpki_validator.specs.rpki_rules.Certs.{Digests}
use Rattle.rpki_validator.specs.rpki_rules.declared.cause.Cause.TheVariants as cause
use Rattle.rpki_validator.specs.rpki_rules.Words.{Mem}
use Rattle.rpki_validator.specs.rpki_rules.Chains.{last_of, Accepted}
use Rattle.rpki_validator.specs.rpki_rules.Lines.{Refusal}
use Rattle.rpki_validator.specs.rpki_rules.Output.{IsOutput}
use Rattle.rpki_validator.specs.rpki_rules.Points.{Link}
use Rattle.rpki_validator.specs.rpki_rules.Reach.{IsOneOf, IsReach, Held, NamesOne, SomeLocatorNames, NoFrontNames}
use Rattle.rpki_validator.specs.rpki_rules.Refused.{ChainRefuses}
use Rattle.rpki_validator.specs.rpki_rules.World.{find_object, run_world}
use Rattle.rpki_steps.specs.rpki_rules.Outside.{AreAlikeOutside}

-- The second bundle has what the first has, but for the objects at these URIs: there it may have any, or none.
pub record AgreesBut (uris : List (List ℕ)) (b b' : BundleValue) : Type 0 where
  pub moment : b'.moment ≡ b.moment
  pub depth : b'.depth ≡ b.depth
  pub relaxed : is_relaxed b'.version ≡ is_relaxed b.version
  pub locators : b'.locators ≡ b.locators
  pub verdicts : b'.verdicts ≡ b.verdicts
  pub objects : (key : List ℕ) → ¬ (IsOneOf uris key)
      → find_object b'.objects key ≡ find_object b.objects key

-- Lines of origins and customers outside what the URIs reach in the first bundle are the same in both texts; of the second
-- bundle nothing is asked.
abbrev pub ForgingStaysInside : Type 0
ForgingStaysInside =
    (d : Digests) (uris : List (List ℕ)) (b b' : BundleValue) (r : Resources) → AgreesBut uris b b'
    → IsReach uris (run_world d b) (Held r) →
    (text text' : List ℕ) (o : IsOutput (run_world d b) text)
    (o' : IsOutput (run_world d b') text')
    → AreAlikeOutside r (run_world d b) (run_world d b') text text' o o'

-- Where nothing names one of the URIs, both texts are one.
abbrev pub UntouchedStays : Type 0
UntouchedStays =
    (d : Digests) (uris : List (List ℕ)) (b b' : BundleValue) → AgreesBut uris b b'
    → ¬ (SomeLocatorNames uris (run_world d b)) →
    ((name : List ℕ) (a : Link) (cs : List Link) → Accepted (run_world d b) name a cs
    → ¬ (NamesOne uris (run_world d b) (last_of a cs).cert)) →
    (text : List ℕ) → IsOutput (run_world d b) text ↔ IsOutput (run_world d b') text

-- What is refused is a locator: its text is none, or it leads to no anchor.
abbrev pub IsOfLocator : Refusal → Type 0
IsOfLocator r = (r.cause ≡ cause.Tal) ⊎ (r.cause ≡ cause.Anchor)

-- Where no readable locator names one of the URIs, both texts have the same refusals of locators.
abbrev pub LocatorLinesStay : Type 0
LocatorLinesStay =
    (d : Digests) (uris : List (List ℕ)) (b b' : BundleValue) → AgreesBut uris b b'
    → ¬ (SomeLocatorNames uris (run_world d b)) →
    (text text' : List ℕ) (o : IsOutput (run_world d b) text)
    (o' : IsOutput (run_world d b') text') → (r : Refusal) → IsOfLocator r
    → Mem o.refusals r ↔ Mem o'.refusals r

-- Where no readable locator names one of the URIs, nor any front of an accepted chain of the first bundle, itself included,
-- what this chain refuses it refuses in the second bundle too, and the second text has it.
abbrev pub RefusalLinesStay : Type 0
RefusalLinesStay =
    (d : Digests) (uris : List (List ℕ)) (b b' : BundleValue) → AgreesBut uris b b'
    → ¬ (SomeLocatorNames uris (run_world d b)) →
    (locator : List ℕ) (a : Link) (cs : List Link) → NoFrontNames uris (run_world d b) a cs
    → (r : Refusal) → ChainRefuses (run_world d b) locator a cs r.name r.cause →
    ChainRefuses (run_world d b') locator a cs r.name r.cause
    × ((text' : List ℕ) (o' : IsOutput (run_world d b') text') → Mem o'.refusals r)
