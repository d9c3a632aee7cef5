-- Facts where a growth of memory was refused.
use Rattle.std.specs.Prelude.{Result, Ok, Err, IfErr}
use Rattle.rpki_commands.specs.rpki_bundle.Bundle.{BundleValue}
use Rattle.rpki_commands.specs.rpki_bundle.declared.error.BundleError.{BundleError}
use Rattle.rpki_commands.specs.rpki_bundle.declared.error.BundleError.TheVariants.{NotABundle, Memory}
use Rattle.rpki_commands.specs.declared.folder.parts.Contents.{Contents}
use Rattle.rpki_commands.specs.Folders.{OnMemory, Tells, TellsLines}

pub memory_then : {T P : Type 0} (r : Result T BundleError) → P → IfErr r (λ e. OnMemory e P)
memory_then (Ok x) p = tt
memory_then (Err NotABundle) p = tt
memory_then (Err Memory) p = p

pub memory_weaker : (e : BundleError) {P Q : Type 0} → OnMemory e P → (P → Q) → OnMemory e Q
memory_weaker NotABundle p f = p
memory_weaker Memory p f = f p

-- What tells a bundle has good lines.
pub lines_told : {c : Contents} {b : BundleValue} → Tells c b → TellsLines c
lines_told {c} {b} t = record {
  version = b.version;
  version_is = t.version_is;
  moment = b.moment;
  moment_is = t.moment_is;
  depth = b.depth;
  depth_is = t.depth_is;
  short = t.short;
}
