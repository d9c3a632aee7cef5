use Rattle.rpki_steps.specs.resources_chain.Sets.{InRuns}
use Rattle.rpki_standing.specs.objects_payload.Addresses.{roa_address}
use Rattle.rpki_standing.specs.objects_payload.Covered.{IsHeld}
use Rattle.rpki_standing.proofs.PassedTo.{passed_more}
use Rattle.rpki_steps.proofs.PayloadFiles.{is_unheld, next_fails, next_held}
use Rattle.rpki_steps.proofs.object.payload.first_unheld.Goals as goal

pub returns-then-not-contains_prefix : goal.returns-then-not-contains_prefix
returns-then-not-contains_prefix c =
    let held = InRuns c.args.held.now in
    let a = roa_address c.in-Some.address in
    next_fails (IsHeld held) c.args.addresses.now _ _ a c.in-Some.ensures.steps c.loop-address.invariant
    (is_unheld held c.prefix.result a c.contains_prefix.result c.prefix.ensures c.contains_prefix.ensures c.if-not-contains_prefix.true)

pub loop-address-preserved : goal.loop-address-preserved
loop-address-preserved c =
    let held = InRuns c.args.held.now in
    let a = roa_address c.in-Some.address in
    passed_more (IsHeld held) c.args.addresses.now _ _ a c.in-Some.ensures.steps
    (next_held held c.prefix.result a c.contains_prefix.result c.prefix.ensures c.contains_prefix.ensures c.if-not-contains_prefix.false) c.loop-address.invariant
