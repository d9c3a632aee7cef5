-- Why a file is refused, by what it is.
use Rattle.std.proofs.Common.{◌∙◌, ap}
use Rattle.rpki_rules.specs.rpki_bundle.Bundle.{BundleValue}
use Rattle.rpki_steps.proofs.FileLemmas.{child_told, good_told, ignored_told, reason_told, unread_told}
use Rattle.rpki_steps.proofs.file.file_reason.Goals as goal

pub returns-in-Ok-Child-clause-reason : goal.returns-in-Ok-Child-clause-reason
returns-in-Ok-Child-clause-reason g c =
    λ l. child_told _ c.args.ca.now c.args.keys.now c.args.point.now.point c.args.uri.now c.in-Ok-Child.child c.from-depth.result c.chain_reason-reason.result (c.from-depth.ensures ∙ (c.depth.ensures.depth ∙ ap (λ (b : BundleValue). b.depth) c.in_ok-child.ensures.same.index)) ((rw (c.in-Ok-Child.is, c.in-Ok-Child.field-0-is) at c.in_ok-child.ensures.judged) l) c.chain_reason-reason.ensures

pub returns-in-Ok-Attests-clause-reason : goal.returns-in-Ok-Attests-clause-reason
returns-in-Ok-Attests-clause-reason g c =
    λ l. good_told _ c.args.ca.now c.args.keys.now c.args.point.now.point c.args.uri.now _ ((rw (c.in-Ok-Attests.is, c.in-Ok-Attests.field-0-is) at c.in_ok-child.ensures.judged) l)

pub returns-in-Ok-Nothing-clause-reason : goal.returns-in-Ok-Nothing-clause-reason
returns-in-Ok-Nothing-clause-reason g c =
    λ l. ignored_told _ c.args.ca.now c.args.keys.now c.args.point.now.point c.args.uri.now ((rw (c.in-Ok-Nothing.is, c.in-Ok-Nothing.field-0-is) at c.in_ok-child.ensures.judged) l)

pub returns-in-Ok-Bad-clause-reason : goal.returns-in-Ok-Bad-clause-reason
returns-in-Ok-Bad-clause-reason g c =
    λ l. unread_told _ c.args.ca.now c.args.keys.now c.args.point.now.point c.args.uri.now ((rw (c.in-Ok-Bad.is, c.in-Ok-Bad.field-0-is) at c.in_ok-child.ensures.judged) l)

pub returns-in-Err-clause-reason : goal.returns-in-Err-clause-reason
returns-in-Err-clause-reason g c =
    λ l. reason_told _ c.args.ca.now c.args.keys.now c.args.point.now.point c.args.uri.now c.in-Err.reason ((rw c.in-Err.is at c.in_ok-child.ensures.judged) l)
