use Rattle.std.proofs.Common.{sym, subst}
use Rattle.rpki_commands.specs.rpki_bundle.Bundle.{BundleText}
use Rattle.rpki_commands.specs.rpki_bundle.declared.error.BundleError.{BundleError}
use Rattle.rpki_commands.specs.rpki_bundle.declared.error.BundleError.TheVariants.{NotABundle, Memory}
use Rattle.rpki_commands.specs.rpki_bundle.Errors.{OnNotABundle}
use Rattle.rpki_commands.specs.Folders.{OnMemory, TellsLines}
use Rattle.rpki_commands.specs.Texts.{TellsNoText}
use Rattle.rpki_commands.proofs.Lacking.{lines_told, memory_weaker}
use Rattle.rpki_commands.proofs.OneFolder.{one_told}
use Rattle.rpki_commands.proofs.folder.written.text_of.Goals as goal

weaker : (e : BundleError) {P Q : Type 0} → OnNotABundle e P → (P → Q) → OnNotABundle e Q
weaker NotABundle p f = f p
weaker Memory p f = p

pub returns-in-Err-clause-refused : goal.returns-in-Err-clause-refused
returns-in-Err-clause-refused c = weaker c.in-Err.error c.in-Err.ensures.refused (λ none text t. none t.bundle t.told)

pub returns-in-Err-bundle_of-clause-refused : goal.returns-in-Err-bundle_of-clause-refused
returns-in-Err-bundle_of-clause-refused c =
    subst (λ e. OnNotABundle e (TellsNoText c.args.contents)) (sym c.in-Err-bundle_of.ensures.refused.0) (λ text t.
    c.in-Err-bundle_of.ensures.refused.1 text (subst (BundleText text) (one_told c.in-Ok.ensures.ok t) t.text_is))

pub returns-in-Err-clause-memory : goal.returns-in-Err-clause-memory
returns-in-Err-clause-memory c = memory_weaker c.in-Err.error c.in-Err.ensures.memory (λ some. some.lines)

pub returns-in-Err-bundle_of-clause-memory : goal.returns-in-Err-bundle_of-clause-memory
returns-in-Err-bundle_of-clause-memory c =
    subst (λ e. OnMemory e (TellsLines c.args.contents)) (sym c.in-Err-bundle_of.ensures.refused.0) tt

pub returns-clause-memory : goal.returns-clause-memory
returns-clause-memory c = lines_told c.in-Ok.ensures.ok.told
