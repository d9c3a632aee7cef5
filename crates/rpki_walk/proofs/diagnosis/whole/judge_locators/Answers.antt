use Rattle.std.proofs.Common.{◌⊎◌, ◌<◌, ◌≤◌, ℕ, List, [], length, take_all, ap, inl, subst, ◌∙◌}
use Rattle.rpki_walk.specs.rpki_bundle.declared.parts.Locator.{Locator}
use Rattle.rpki_rules.specs.declared.reason.diagnosis.Diagnosis.{Diagnosis}
use Rattle.rpki_rules.specs.World.{World}
use Rattle.rpki_rules.specs.Words.{Mem}
use Rattle.rpki_rules.specs.Diagnoses.{DiagnosisValue, DiagnosesLocator}
use Rattle.rpki_rules.specs.DiagnosisViews.{diagnosis_of}
use Rattle.rpki_walk.specs.Repository.{locator_at}
use Rattle.rpki_walk.specs.Diagnosed.{IsOnly, Adds, IsOfLocator}
use Rattle.rpki_walk.proofs.Diagnosed.{adds_next, only_adds, only_keeps, only_told, told_more, told_next}
use Rattle.rpki_walk.proofs.diagnosis.whole.judge_locators.Goals as goal
use Rattle.rpki_walk.proofs.diagnosis.whole.judge_locators.Goals.{in-Some+in_ok-push, in_default}

pub loop-at-preserved : goal.loop-at-preserved
loop-at-preserved g c =
    let w = g.S.Repository.world c.args.repository.now in let inv = c.loop-at.invariant in let at = c.loop-at.at in
    let d : Locator = record { name = []; text = [] } in let l = locator_at w at in let o = c.in_ok-wrong.field-0 in
    let old = c.args.found.now.items in let mid = c.loop-at.found.items in let new = c.match-branch-2.found.items in
    let below : at < length w.locators = subst (λ (n : ℕ). at < n) c.locator_count-at-end.ensures.count c.loop-at-test.true in
    let only : IsOnly diagnosis_of (DiagnosesLocator w l) o = subst (λ (v : World). IsOnly diagnosis_of (DiagnosesLocator v (locator_at v at)) o) inv.same c.in_ok-wrong.ensures.wrong in
    let wrong : Adds diagnosis_of mid (DiagnosesLocator w l) new = elim c.match-branch-2.branch [
      | in-Some+in_ok-push v ↦ only_adds diagnosis_of (DiagnosesLocator w l) o only mid new v.in-Some.wrong v.in-Some.is (ap (λ q. q.items) v.found-is ∙ v.in_ok-push.ensures.items)
      | in_default v ↦ only_keeps diagnosis_of (DiagnosesLocator w l) o only mid new v.in_default.not-Some (ap (λ q. q.items) v.found-is)
    ] in
    let told : (x : Diagnosis) → Mem new x → Mem mid x ⊎ IsOfLocator w l x = elim c.match-branch-2.branch [
      | in-Some+in_ok-push v ↦ told_more w mid new v.in-Some.wrong l (ap (λ q. q.items) v.found-is ∙ v.in_ok-push.ensures.items) (only_told w l o v.in-Some.wrong v.in-Some.is only c.in_ok-wrong.ensures.told)
      | in_default v ↦ λ x m. inl (subst (λ (ds : List Diagnosis). Mem ds x) (ap (λ q. q.items) v.found-is) m)
    ] in
    record {
      same = c.in_ok-wrong.ensures.same ∙ inv.same;
      lender = c.in_ok-wrong.ensures.lender ∙ inv.lender;
      wrong = adds_next diagnosis_of (DiagnosesLocator w) old mid new w.locators at d below inv.wrong wrong;
      told = told_next w w.locators at d below old mid new inv.told told;
    }

pub returns-clause-wrong : goal.returns-clause-wrong
returns-clause-wrong g c =
    let w = g.S.Repository.world c.args.repository.now in
    subst (λ (ls : List Locator). Adds diagnosis_of c.args.found.now.items (λ (d : DiagnosisValue). (u : Locator) × Mem ls u × DiagnosesLocator w u d) c.loop-at.found.items)
    (take_all c.loop-at.at w.locators (subst (λ (n : ℕ). n ≤ c.loop-at.at) c.locator_count-at-end.ensures.count c.loop-at-test.false)) c.loop-at.invariant.wrong

pub returns-clause-told : goal.returns-clause-told
returns-clause-told g c =
    let w = g.S.Repository.world c.args.repository.now in
    subst (λ (ls : List Locator). (x : Diagnosis) → Mem c.loop-at.found.items x → Mem c.args.found.now.items x ⊎ ((u : Locator) × Mem ls u × IsOfLocator w u x))
    (take_all c.loop-at.at w.locators (subst (λ (n : ℕ). n ≤ c.loop-at.at) c.locator_count-at-end.ensures.count c.loop-at-test.false)) c.loop-at.invariant.told
