use Rattle.std.proofs.Common.{subst}
use Rattle.rpki_commands.specs.Verdicts.{TakesNextDigest, TakesEnd}
use Rattle.rpki_commands.proofs.VerdictLines.{one_front, one_next}
use Rattle.rpki_commands.proofs.folder.verdicts.take_verdict.Goals as goal

pub returns-in_default-clause-none : goal.returns-in_default-clause-none
returns-in_default-clause-none c = λ v rest i. c.in_default.ensures.none v.key i.behind_key i.key_is

pub returns-in_default-take_next_digest-clause-none : goal.returns-in_default-take_next_digest-clause-none
returns-in_default-take_next_digest-clause-none c = λ v rest i.
    let key = one_front i.key_is c.in-Some.ensures.found in
    c.in_default-take_next_digest.ensures.none v.message i.behind_message (subst (λ s. TakesNextDigest s v.message i.behind_message) key.behind i.message_is)

pub returns-in_default-take_next_digest-2-clause-none : goal.returns-in_default-take_next_digest-2-clause-none
returns-in_default-take_next_digest-2-clause-none c = λ v rest i.
    let key = one_front i.key_is c.in-Some.ensures.found in
    let message = one_next (subst (λ s. TakesNextDigest s v.message i.behind_message) key.behind i.message_is) c.in-Some-take_next_digest.ensures.found in
    c.in_default-take_next_digest-2.ensures.none v.signature i.behind_signature (subst (λ s. TakesNextDigest s v.signature i.behind_signature) message.behind i.signature_is)

pub returns-in_default-behind_end-clause-none : goal.returns-in_default-behind_end-clause-none
returns-in_default-behind_end-clause-none c = λ v rest i.
    let key = one_front i.key_is c.in-Some.ensures.found in
    let message = one_next (subst (λ s. TakesNextDigest s v.message i.behind_message) key.behind i.message_is) c.in-Some-take_next_digest.ensures.found in
    let signature = one_next (subst (λ s. TakesNextDigest s v.signature i.behind_signature) message.behind i.signature_is) c.in-Some-take_next_digest-2.ensures.found in
    c.in_default-behind_end.ensures.none rest (subst (λ s. TakesEnd s rest) signature.behind i.end_is)
