use Rattle.std.proofs.Common.{ℕ, ◌≤◌, ◌<◌, ◌⊎◌, ◌↔◌, List, [], map, refl, take_all, sym, subst, ◌∙◌, inl, inr}
use Rattle.rpki_walk.specs.rpki_bundle.declared.parts.Locator.{Locator}
use Rattle.rpki_rules.specs.Words.{Mem}
use Rattle.rpki_rules.specs.World.{World}
use Rattle.rpki_rules.specs.Report.{IsReportOf}
use Rattle.rpki_rules.specs.Views.{origin_of, provision_of, refusal_of, witness_of}
use Rattle.rpki_rules.specs.declared.witness.Witness.{Witness}
use Rattle.rpki_walk.specs.Repository.{locator_at}
use Rattle.rpki_walk.specs.Facts.{FromLocator, IsFinding}
use Rattle.rpki_walk.specs.Alike.{IsPrinted}
use Rattle.rpki_walk.specs.Walked.{has_lines, AreWalked, TellsLocator}
use Rattle.rpki_walk.specs.declared.lines.remembered.Walked.{Walked}
use Rattle.rpki_walk.proofs.Mems.{gains_same, gains_next}
use Rattle.rpki_walk.proofs.Leading.{told_is}
use Rattle.rpki_walk.proofs.LinesReport.{nothing_found, lines_are}
use Rattle.rpki_walk.proofs.lines.whole.walk_lines.Goals as goal

pub loop-at-init : goal.loop-at-init
loop-at-init g c = record {
  same = refl;
  lender = refl;
  walked = λ one m. absurd (subst (λ (xs : List Walked). Mem xs one) c.new-walk.ensures.walked m);
  gained = λ x i. (
    λ m. absurd (nothing_found c.new-walk.result.lines c.new-walk.ensures.origins c.new-walk.ensures.provisions c.new-walk.ensures.refusals x m),
    λ m. elim m [ inl n ↦ absurd n | inr q ↦ elim q [ inl n ↦ absurd n | inr h ↦ absurd h.1 ] ],
  );
}

pub loop-at-preserved : goal.loop-at-preserved
loop-at-preserved g c =
    let w = g.S.Repository.world c.args.repository.now in
    let inv = c.loop-at.invariant in
    let at = c.loop-at.at in
    let old = c.loop-at.walk in
    let new = c.lines_at.new.walk in
    let told = subst (λ (v : World). AreWalked v old → TellsLocator v (locator_at v at) old new) inv.same c.in_ok-lines_at.ensures.facts inv.walked in
    record {
      same = c.in_ok-lines_at.ensures.same ∙ inv.same;
      lender = c.in_ok-lines_at.ensures.lender ∙ inv.lender;
      walked = told.walked;
      gained = gains_next IsPrinted (λ x. ⊥) (has_lines old.lines) (has_lines new.lines) (λ x. ⊥) (FromLocator [] w) w.locators at (record { name = []; text = [] }) (subst (λ (n : ℕ). at < n) c.locator_count-at-end.ensures.count c.loop-at-test.true) inv.gained told.gained;
    }

pub returns-clause-report : goal.returns-clause-report
returns-clause-report g c =
    let w = g.S.Repository.world c.args.repository.now in
    let lines = c.loop-at.walk.lines in
    lines_are w lines
    (gains_same IsPrinted _ _ _ _ c.loop-at.invariant.gained (λ x.
    subst (λ (ls : List Locator). (⊥ ⊎ ((u : Locator) × Mem ls u × FromLocator [] w u x)) ↔ IsFinding [] w x)
    (sym (take_all c.loop-at.at w.locators (subst (λ (n : ℕ). n ≤ c.loop-at.at) c.locator_count-at-end.ensures.count c.loop-at-test.false)))
    (told_is [] w c.locator_count-at-end.ensures.apart x)))
    c.in_ok-report.report
    (subst (λ (ws : List Witness). IsReportOf (map origin_of lines.origins.items) (map provision_of lines.provisions.items) (map refusal_of lines.refusals.items) (map witness_of ws) c.in_ok-report.report) c.new.ensures.items c.in_ok-report.ensures)
