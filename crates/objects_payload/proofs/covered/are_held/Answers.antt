use Rattle.std.proofs.Common.{◌↔◌, IsTrue, sym, ◌∙◌}
use Rattle.objects_payload.specs.resources_chain.Sets.{InRuns}
use Rattle.objects_payload.specs.Addresses.{roa_address}
use Rattle.objects_payload.specs.Covered.{IsHeld}
use Rattle.objects_payload.proofs.Steps.{HasAll, held_behind, held_front, held_whole, prefix_held}
use Rattle.objects_payload.proofs.covered.are_held.Goals as goal

pub returns-then-not-contains_prefix : goal.returns-then-not-contains_prefix
returns-then-not-contains_prefix c =
    let held = InRuns c.args.held.now in
    let a = roa_address c.in-Some.address in
    let same : HasAll held c.prefix.result ↔ IsHeld held a = prefix_held held c.prefix.result a c.prefix.ensures in (
      λ t. absurd cc,
      λ all.
          let front : IsHeld held a = held_front held _ _ a c.in-Some.ensures.steps (c.loop-address.invariant.0 all) in
          let one : IsTrue c.contains_prefix.result = c.contains_prefix.ensures.1 (same.1 front) in
          sym c.if-not-contains_prefix.true ∙ one,
    )

pub loop-address-preserved : goal.loop-address-preserved
loop-address-preserved c =
    let held = InRuns c.args.held.now in
    let a = roa_address c.in-Some.address in
    let same : HasAll held c.prefix.result ↔ IsHeld held a = prefix_held held c.prefix.result a c.prefix.ensures in
    let one : IsHeld held a = same.0 (c.contains_prefix.ensures.0 c.if-not-contains_prefix.false) in (
      (λ all. held_behind held _ _ a c.in-Some.ensures.steps (c.loop-address.invariant.0 all)),
      (λ rest. c.loop-address.invariant.1 (held_whole held _ _ a c.in-Some.ensures.steps one rest)),
    )
