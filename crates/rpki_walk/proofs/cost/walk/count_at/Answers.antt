use Rattle.std.proofs.Common.{◌≤◌, sym, subst, inl, inr}
use Rattle.std.proofs.lemmas.Result.{IfOk-weaker}
use Rattle.rpki_walk.specs.Repository.{locator_at}
use Rattle.rpki_walk.proofs.Mems.{mem_get_or}
use Rattle.rpki_walk.proofs.Costs.{counts_anchor, counts_none}
use Rattle.rpki_walk.proofs.cost.walk.count_at.Goals as goal

pub count_at_anchor-requires : goal.count_at_anchor-requires
count_at_anchor-requires g c = subst (λ v. 1 ≤ v.depth) (sym c.in_ok-read_locator.ensures.same) c.requires.deep

pub returns-in-Unreadable-clause-facts : goal.returns-in-Unreadable-clause-facts
returns-in-Unreadable-clause-facts g c =
    let w = g.S.Repository.world c.args.repository.now in
    counts_none g.S.Repository.cert g.S.Repository.sets w (locator_at w c.args.at) c.in_ok-read_locator.field-0 c.in_ok-read_locator.ensures.led (inl c.in-Unreadable.is) c.args.tally.now

pub returns-in-Nowhere-clause-facts : goal.returns-in-Nowhere-clause-facts
returns-in-Nowhere-clause-facts g c =
    let w = g.S.Repository.world c.args.repository.now in
    counts_none g.S.Repository.cert g.S.Repository.sets w (locator_at w c.args.at) c.in_ok-read_locator.field-0 c.in_ok-read_locator.ensures.led (inr c.in-Nowhere.is) c.args.tally.now

pub returns-in-Anchor-clause-facts : goal.returns-in-Anchor-clause-facts
returns-in-Anchor-clause-facts g c =
    let w = g.S.Repository.world c.args.repository.now in
    IfOk-weaker _ _ _ (λ whole walked. counts_anchor g.S.Repository.cert g.S.Repository.sets w (locator_at w c.args.at) c.in_ok-read_locator.field-0 c.in_ok-read_locator.ensures.led c.in-Anchor.uri c.in-Anchor.anchor c.in-Anchor.is (mem_get_or w.locators c.args.at _ c.requires.within) c.requires.deep (g.S.Repository.world c.read_locator.new.self) c.in_ok-read_locator.ensures.same c.args.tally.now c.count_at_anchor.new.tally whole walked) c.count_at_anchor.ensures.facts
