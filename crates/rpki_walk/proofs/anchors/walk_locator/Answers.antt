use Rattle.std.proofs.Common.{◌≤◌, sym, subst}
use Rattle.rpki_walk.specs.Repository.{locator_at}
use Rattle.rpki_walk.proofs.Mems.{mem_get_or}
use Rattle.rpki_walk.proofs.Leading.{arm_tal, arm_nowhere, arm_anchor, on_ok}
use Rattle.rpki_walk.proofs.anchors.walk_locator.Goals as goal

pub walk_anchor-requires : goal.walk_anchor-requires
walk_anchor-requires g c = subst (λ v. 1 ≤ v.depth) (sym c.in_ok-read_locator.ensures.same) c.requires.deep

pub returns-in-Unreadable-clause-gained : goal.returns-in-Unreadable-clause-gained
returns-in-Unreadable-clause-gained g c =
    let w = g.S.Repository.world c.args.repository.now in
    on_ok _ (λ gained. arm_tal g.S.Repository.cert g.S.Repository.sets g.V.Visitor.wants (g.V.Visitor.uris c.args.visitor.now) w (locator_at w c.args.at) c.in_ok-read_locator.field-0 c.in_ok-read_locator.ensures.led c.in-Unreadable.is _ c.in_ok-name.ensures _ _ gained) c.refuse.ensures.gained

pub returns-in-Nowhere-clause-gained : goal.returns-in-Nowhere-clause-gained
returns-in-Nowhere-clause-gained g c =
    let w = g.S.Repository.world c.args.repository.now in
    on_ok _ (λ gained. arm_nowhere g.S.Repository.cert g.S.Repository.sets g.V.Visitor.wants (g.V.Visitor.uris c.args.visitor.now) w (locator_at w c.args.at) c.in_ok-read_locator.field-0 c.in_ok-read_locator.ensures.led c.in-Nowhere.is _ c.in_ok-name.ensures _ _ gained) c.refuse-in-Nowhere.ensures.gained

pub returns-in-Anchor-clause-gained : goal.returns-in-Anchor-clause-gained
returns-in-Anchor-clause-gained g c =
    let w = g.S.Repository.world c.args.repository.now in
    on_ok _ (λ walked. arm_anchor g.S.Repository.cert g.S.Repository.sets g.V.Visitor.wants (g.V.Visitor.uris c.args.visitor.now) w (locator_at w c.args.at) c.in_ok-read_locator.field-0 c.in_ok-read_locator.ensures.led c.in-Anchor.uri c.in-Anchor.anchor c.in-Anchor.is (mem_get_or w.locators c.args.at _ c.requires.within) c.requires.deep _ c.in_ok-name.ensures (g.S.Repository.world c.read_locator.new.self) c.in_ok-read_locator.ensures.same _ _ walked) c.walk_anchor.ensures.facts
