-- What a refusal says.
use Rattle.rpki_bundle.specs.declared.error.BundleError.{BundleError}
use Rattle.rpki_bundle.specs.declared.error.BundleError.TheVariants.{NotABundle, Memory}

-- A fact where the octets themselves were refused.
abbrev pub OnNotABundle : BundleError → Type 0 → Type 0
OnNotABundle NotABundle fact = fact
OnNotABundle Memory fact = Unit {0}

-- A fact where a growth of memory was refused.
abbrev pub OnMemory : BundleError → Type 0 → Type 0
OnMemory NotABundle fact = Unit {0}
OnMemory Memory fact = fact
