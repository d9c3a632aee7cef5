use Rattle.std.proofs.Common.{◌≡◌, ℕ, List, sym, subst}
use Rattle.std.specs.Prelude.{IfErr}
use Rattle.rpki_commands.specs.rpki_bundle.Bundle.{BundleText}
use Rattle.rpki_commands.specs.rpki_bundle.declared.error.BundleError.TheVariants.{NotABundle}
use Rattle.rpki_commands.specs.rpki_bundle.declared.version.Version.{Version}
use Rattle.rpki_commands.specs.Folders.{value_of}
use Rattle.rpki_commands.proofs.folder.written.bundle_of.Goals as goal

pub returns-in-Zero-clause-refused : goal.returns-in-Zero-clause-refused
returns-in-Zero-clause-refused c =
    subst (λ (v : Version). IfErr c.from_parts.result (λ e. (e ≡ NotABundle) × ((octets : List ℕ) → BundleText octets (record (value_of c.args.parts) { version = v }) → ⊥))) (sym c.in-Zero.is) c.from_parts.ensures.refused

pub returns-in-One-clause-refused : goal.returns-in-One-clause-refused
returns-in-One-clause-refused c =
    subst (λ (v : Version). IfErr c.from_parts_v1.result (λ e. (e ≡ NotABundle) × ((octets : List ℕ) → BundleText octets (record (value_of c.args.parts) { version = v }) → ⊥))) (sym c.in-One.is) c.from_parts_v1.ensures.refused
