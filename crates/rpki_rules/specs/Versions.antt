-- The versions of bundles: what laws say of a bundle and of one of version 1 with its parts.
use Rattle.std.specs.Prelude.{◌≡◌, ℕ, ◌↔◌, Bool, true, false, List}
use Rattle.rpki_rules.specs.rpki_bundle.Bundle.{BundleValue}
use Rattle.rpki_rules.specs.rpki_bundle.declared.version.Version.TheVariants.{Zero, One}
use Rattle.rpki_rules.specs.Certs.{Digests}
use Rattle.rpki_rules.specs.World.{run_world}
use Rattle.rpki_rules.specs.Output.{IsOutput}
use Rattle.rpki_rules.specs.Laws.{KeepsAll}

-- The bundle of version 1 with these parts, relaxed or not.
abbrev pub upgraded : Bool → BundleValue → BundleValue
upgraded relaxed b = record b { version = One relaxed }

-- The output of a bundle of version 0 is that of its upgrade that isn't relaxed.
abbrev pub UpgradeStays : Type 0
UpgradeStays =
    (d : Digests) (b : BundleValue) → b.version ≡ Zero → (text : List ℕ)
    → IsOutput (run_world d b) text ↔ IsOutput (run_world d (upgraded false b)) text

-- Relaxed, a bundle of version 1 attests each origin and each provider that it attests not relaxed.
abbrev pub RelaxedKeeps : Type 0
RelaxedKeeps =
    (d : Digests) (b : BundleValue)
    → KeepsAll (run_world d (upgraded false b)) (run_world d (upgraded true b))
