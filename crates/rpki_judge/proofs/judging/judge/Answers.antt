use Rattle.std.proofs.Common.{ℕ, ◌<◌, ◌≤◌, length, ap, sym, subst, ◌∙◌}
use Rattle.rpki_judge.specs.Climbing.{links_of}
use Rattle.rpki_judge.proofs.Links.{too_long}
use Rattle.rpki_judge.proofs.ClimbSteps.{no_judged, missing_judged, all_read, repeat_judged, all_judged, long_reads, missing_reads, repeat_reads, all_reads, asks_all, asks_after}
use Rattle.rpki_rules.specs.Attests.{WitnessValue}
use Rattle.rpki_judge.proofs.judging.judge.Goals as goal

pub returns-then-chain-depth-clause-judged : goal.returns-then-chain-depth-clause-judged
returns-then-chain-depth-clause-judged g c =
    let t : WitnessValue = record { locator = c.args.locator.now; chain = c.args.chain.now; object = c.args.object.now } in
    let w = g.E.Evidence.world c.args.evidence.now in
    no_judged w t c.no.result c.no.ensures (too_long w t (subst (λ (n : ℕ). n < length c.args.chain.now) c.depth.ensures c.if-chain-depth.true))

pub returns-then-not-branch-clause-judged : goal.returns-then-not-branch-clause-judged
returns-then-not-branch-clause-judged g c =
    let t : WitnessValue = record { locator = c.args.locator.now; chain = c.args.chain.now; object = c.args.object.now } in
    missing_judged (g.E.Evidence.world c.args.evidence.now) t (links_of g.E.Evidence.cert c.new-links.result.items) (links_of g.E.Evidence.cert c.read_chain.new.links.items) c.in_ok-read_chain.field-0 c.no-then-not-branch.result
    c.if-not-branch.true c.no-then-not-branch.ensures c.in_ok-read_chain.ensures.read

pub returns-then-not-are_distinct-clause-judged : goal.returns-then-not-are_distinct-clause-judged
returns-then-not-are_distinct-clause-judged g c =
    let t : WitnessValue = record { locator = c.args.locator.now; chain = c.args.chain.now; object = c.args.object.now } in
    let w = g.E.Evidence.world c.args.evidence.now in
    repeat_judged w t (links_of g.E.Evidence.cert c.deref.result.now) c.are_distinct.result c.no-then-not-are_distinct.result
    (all_read g.E.Evidence.cert w c.args.chain.now c.new-links.result.items c.read_chain.new.links.items c.deref.result.now c.in_ok-read_chain.field-0 c.new-links.ensures.items c.deref.ensures.value c.if-not-branch.false c.in_ok-read_chain.ensures.read)
    c.if-not-are_distinct.true c.are_distinct.ensures c.no-then-not-are_distinct.ensures

pub returns-clause-judged : goal.returns-clause-judged
returns-clause-judged g c =
    let t : WitnessValue = record { locator = c.args.locator.now; chain = c.args.chain.now; object = c.args.object.now } in
    let w = g.E.Evidence.world c.args.evidence.now in
    all_judged w (g.E.Evidence.world c.read_chain.new.evidence) t (links_of g.E.Evidence.cert c.deref.result.now) (links_of g.E.Evidence.cert c.deref-2.result.now) c.judge_links.result
    (ap (links_of g.E.Evidence.cert) (c.deref.ensures.value ∙ sym c.deref-2.ensures.value))
    (all_read g.E.Evidence.cert w c.args.chain.now c.new-links.result.items c.read_chain.new.links.items c.deref.result.now c.in_ok-read_chain.field-0 c.new-links.ensures.items c.deref.ensures.value c.if-not-branch.false c.in_ok-read_chain.ensures.read)
    (c.are_distinct.ensures.0 c.if-not-are_distinct.false) (subst (λ (n : ℕ). length c.args.chain.now ≤ n) c.depth.ensures c.if-chain-depth.false) c.in_ok-read_chain.ensures.same c.judge_links.ensures.judged

pub returns-clause-asks : goal.returns-clause-asks
returns-clause-asks g c =
    let w = g.E.Evidence.world c.args.evidence.now in
    asks_all g.E.Evidence.cert w c.args.chain.now c.deref-2.result.now (g.E.Evidence.asked c.args.evidence.now) (g.E.Evidence.asked c.read_chain.new.evidence) (g.E.Evidence.asked c.judge_links.new.evidence)
    (all_read g.E.Evidence.cert w c.args.chain.now c.new-links.result.items c.read_chain.new.links.items c.deref-2.result.now c.in_ok-read_chain.field-0 c.new-links.ensures.items c.deref-2.ensures.value c.if-not-branch.false c.in_ok-read_chain.ensures.read)
    c.in_ok-read_chain.ensures.asks c.judge_links.ensures.asks

pub returns-then-chain-depth-clause-read : goal.returns-then-chain-depth-clause-read
returns-then-chain-depth-clause-read g c =
    let t : WitnessValue = record { locator = c.args.locator.now; chain = c.args.chain.now; object = c.args.object.now } in
    long_reads (g.E.Evidence.world c.args.evidence.now) t c.no.result c.no.ensures (subst (λ (n : ℕ). n < length c.args.chain.now) c.depth.ensures c.if-chain-depth.true)

pub returns-then-not-branch-clause-read : goal.returns-then-not-branch-clause-read
returns-then-not-branch-clause-read g c =
    let t : WitnessValue = record { locator = c.args.locator.now; chain = c.args.chain.now; object = c.args.object.now } in
    missing_reads (g.E.Evidence.world c.args.evidence.now) t (links_of g.E.Evidence.cert c.new-links.result.items) (links_of g.E.Evidence.cert c.read_chain.new.links.items) c.in_ok-read_chain.field-0 c.no-then-not-branch.result
    c.if-not-branch.true c.no-then-not-branch.ensures c.in_ok-read_chain.ensures.read

pub returns-then-not-are_distinct-clause-read : goal.returns-then-not-are_distinct-clause-read
returns-then-not-are_distinct-clause-read g c =
    let t : WitnessValue = record { locator = c.args.locator.now; chain = c.args.chain.now; object = c.args.object.now } in
    let w = g.E.Evidence.world c.args.evidence.now in
    repeat_reads w t (links_of g.E.Evidence.cert c.deref.result.now) c.are_distinct.result c.no-then-not-are_distinct.result
    (all_read g.E.Evidence.cert w c.args.chain.now c.new-links.result.items c.read_chain.new.links.items c.deref.result.now c.in_ok-read_chain.field-0 c.new-links.ensures.items c.deref.ensures.value c.if-not-branch.false c.in_ok-read_chain.ensures.read)
    c.if-not-are_distinct.true c.are_distinct.ensures c.no-then-not-are_distinct.ensures

pub returns-clause-read : goal.returns-clause-read
returns-clause-read g c =
    let t : WitnessValue = record { locator = c.args.locator.now; chain = c.args.chain.now; object = c.args.object.now } in
    let w = g.E.Evidence.world c.args.evidence.now in
    all_reads w (g.E.Evidence.world c.read_chain.new.evidence) t (links_of g.E.Evidence.cert c.deref.result.now) (links_of g.E.Evidence.cert c.deref-2.result.now) c.judge_links.result
    (ap (links_of g.E.Evidence.cert) (c.deref.ensures.value ∙ sym c.deref-2.ensures.value))
    (all_read g.E.Evidence.cert w c.args.chain.now c.new-links.result.items c.read_chain.new.links.items c.deref.result.now c.in_ok-read_chain.field-0 c.new-links.ensures.items c.deref.ensures.value c.if-not-branch.false c.in_ok-read_chain.ensures.read)
    (c.are_distinct.ensures.0 c.if-not-are_distinct.false) (subst (λ (n : ℕ). length c.args.chain.now ≤ n) c.depth.ensures c.if-chain-depth.false) c.in_ok-read_chain.ensures.same c.judge_links.ensures.judged

pub returns-clause-asks_read : goal.returns-clause-asks_read
returns-clause-asks_read g c =
    asks_after c.judge_links.result (g.E.Evidence.asked c.args.evidence.now) (g.E.Evidence.asked c.read_chain.new.evidence) (g.E.Evidence.asked c.judge_links.new.evidence)
    c.in_ok-read_chain.ensures.asks c.judge_links.ensures.asks_read
