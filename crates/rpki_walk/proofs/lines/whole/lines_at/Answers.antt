use Rattle.std.proofs.Common.{◌≡◌, ◌≤◌, refl, sym, subst}
use Rattle.rpki_rules.specs.declared.cause.Cause.TheVariants as cause
use Rattle.rpki_walk.specs.Repository.{locator_at}
use Rattle.rpki_walk.specs.Facts.{Refuses, Gains}
use Rattle.rpki_walk.specs.Alike.{IsPrinted}
use Rattle.rpki_walk.specs.Walked.{has_lines, AreWalked, TellsLocator}
use Rattle.rpki_walk.specs.declared.lines.walk.LinesWalk.{LinesWalk}
use Rattle.rpki_walk.proofs.Mems.{mem_get_or}
use Rattle.rpki_walk.proofs.Leading.{on_ok}
use Rattle.rpki_walk.proofs.LinesLeading.{tal_tells, nowhere_tells, anchor_tells}
use Rattle.rpki_walk.proofs.lines.whole.lines_at.Goals as goal

pub lines_at_anchor-requires : goal.lines_at_anchor-requires
lines_at_anchor-requires g c = subst (λ v. 1 ≤ v.depth) (sym c.in_ok-read_locator.ensures.same) c.requires.deep

pub returns-in-Unreadable-clause-facts : goal.returns-in-Unreadable-clause-facts
returns-in-Unreadable-clause-facts g c =
    let w = g.S.Repository.world c.args.repository.now in
    let old = c.args.walk.now in
    let new : LinesWalk = record { lines = c.refuse.new.self; met = old.met; before = old.before } in
    let tells : Gains IsPrinted (has_lines old.lines) (λ x. Refuses c.in_ok-name.name cause.Tal ≡ x) (has_lines new.lines) → AreWalked w old → TellsLocator w (locator_at w c.args.at) old new =
    λ gained all. tal_tells g.S.Repository.cert g.S.Repository.sets w (locator_at w c.args.at) c.in_ok-read_locator.field-0 c.in_ok-read_locator.ensures.led old new all c.in-Unreadable.is c.in_ok-name.name c.in_ok-name.ensures gained refl refl in
    on_ok c.refuse.result tells c.refuse.ensures

pub returns-in-Nowhere-clause-facts : goal.returns-in-Nowhere-clause-facts
returns-in-Nowhere-clause-facts g c =
    let w = g.S.Repository.world c.args.repository.now in
    let old = c.args.walk.now in
    let new : LinesWalk = record { lines = c.refuse-in-Nowhere.new.self; met = old.met; before = old.before } in
    let tells : Gains IsPrinted (has_lines old.lines) (λ x. Refuses c.in_ok-name.name cause.Anchor ≡ x) (has_lines new.lines) → AreWalked w old → TellsLocator w (locator_at w c.args.at) old new =
    λ gained all. nowhere_tells g.S.Repository.cert g.S.Repository.sets w (locator_at w c.args.at) c.in_ok-read_locator.field-0 c.in_ok-read_locator.ensures.led old new all c.in-Nowhere.is c.in_ok-name.name c.in_ok-name.ensures gained refl refl in
    on_ok c.refuse-in-Nowhere.result tells c.refuse-in-Nowhere.ensures

pub returns-clause-facts : goal.returns-clause-facts
returns-clause-facts g c all =
    let w = g.S.Repository.world c.args.repository.now in
    anchor_tells g.S.Repository.cert g.S.Repository.sets w (locator_at w c.args.at) c.in_ok-read_locator.field-0 c.in_ok-read_locator.ensures.led c.args.walk.now c.lines_at_anchor.new.walk all c.in-Anchor.uri c.in-Anchor.anchor c.in-Anchor.is (mem_get_or w.locators c.args.at _ c.requires.within) c.requires.deep (g.S.Repository.world c.read_locator.new.self) c.in_ok-read_locator.ensures.same _ c.in_ok-lines_at_anchor-in-Anchor.ensures.facts
