-- A bundle of version 0 and its upgrade that isn't relaxed are read over one world.
use Rattle.std.proofs.Common.{◌≡◌, false, sym, ap, subst}
use Rattle.std.specs.Prelude.{not}
use Rattle.rpki_rules.specs.rpki_bundle.Bundle.{BundleValue, is_relaxed}
use Rattle.rpki_rules.specs.rpki_bundle.declared.version.Version.{Version}
use Rattle.rpki_rules.specs.rpki_bundle.declared.version.Version.TheVariants.{Zero}
use Rattle.rpki_rules.specs.Certs.{Digests}
use Rattle.rpki_rules.specs.World.{World, run_world}
use Rattle.rpki_rules.specs.Output.{IsOutput}
use Rattle.rpki_rules.specs.Versions.{upgraded, UpgradeStays}

one_world : (d : Digests) (b : BundleValue) → b.version ≡ Zero → run_world d b ≡ run_world d (upgraded false b)
one_world d b zero = ap (λ (v : Version). record (run_world d b) { strict = not (is_relaxed v) }) zero

pub upgrade_stays : UpgradeStays
upgrade_stays d b zero text =
    let same = one_world d b zero in
    (subst (λ (w : World). IsOutput w text) same, subst (λ (w : World). IsOutput w text) (sym same))
