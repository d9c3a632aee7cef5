use Rattle.std.proofs.Common.{sym, subst}
use Rattle.rpki_bundle.specs.Bundle.{BundleValue, BundleText}
use Rattle.rpki_bundle.proofs.Beginning.{told_no_memory}
use Rattle.rpki_bundle.proofs.Reading.{refused_text}
use Rattle.rpki_bundle.proofs.bundle.Bundle.decode_shared.Goals as goal

pub bundle_of-requires : goal.bundle_of-requires
bundle_of-requires c = (_, c.in-Ok.ensures.tells)

pub returns-in-Ok-clause-ok : goal.returns-in-Ok-clause-ok
returns-in-Ok-clause-ok c = subst (λ (b : BundleValue). BundleText c.args.octets b) (sym c.bundle_of.ensures) c.in-Ok.ensures.tells

pub returns-in-Err-clause-not_a_bundle : goal.returns-in-Err-clause-not_a_bundle
returns-in-Err-clause-not_a_bundle c = refused_text _ c.in-Err.error c.refusal.result c.refusal.ensures c.in-Err.ensures.tells

pub returns-in-Err-clause-memory : goal.returns-in-Err-clause-memory
returns-in-Err-clause-memory c = told_no_memory _ c.in-Err.error c.refusal.result c.refusal.ensures c.in-Err.ensures.memory
