use Rattle.objects_written.proofs.Refusing.{stopped}
use Rattle.objects_rta_written.proofs.Writing.{parts_next, signers_stop, stand_next}
use Rattle.objects_rta_written.specs.Again.{SignersRefused, signers_seen}
use Rattle.objects_rta_written.proofs.object.signers_of.Goals as goal

pub returns-in_err-value-clause-refused : goal.returns-in_err-value-clause-refused
returns-in_err-value-clause-refused c =
    stopped (SignersRefused (signers_seen c.args.signers.now)) _ c.in_err-value.field-0.0 c.from_residual.ensures
    (signers_stop c.loop-signer.rest.now c.in-Some.others.now c.args.signers.now c.in-Some.signer.now c.in-Some.ensures.cases.0 c.loop-signer.invariant.1 c.in_err-value.field-0.0 c.in_err-value.ensures.refused)

pub loop-signer-preserved : goal.loop-signer-preserved
loop-signer-preserved c = (
  parts_next c.loop-signer.values.items _ c.loop-signer.rest.now c.in-Some.others.now c.args.signers.now c.in-Some.signer.now _ c.in-Some.ensures.cases.0 c.in_ok-value.ensures.parts c.in_ok-push.ensures.pushed c.loop-signer.invariant.0,
  stand_next c.loop-signer.rest.now c.in-Some.others.now c.args.signers.now c.in-Some.signer.now c.in-Some.ensures.cases.0 c.in_ok-value.ensures.stands c.loop-signer.invariant.1,
)
