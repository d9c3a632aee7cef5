use Rattle.std.proofs.Common.{ℕ, List, get_or, take_all, sym, ap, subst, ◌∙◌}
use Rattle.rpki_rules.specs.World.{World}
use Rattle.rpki_rules.specs.Words.{Mem}
use Rattle.rpki_rules.specs.Kinds.{InSet}
use Rattle.rpki_rules.specs.Points.{files}
use Rattle.rpki_rules.specs.Views.{path_of}
use Rattle.rpki_rules.specs.Diagnoses.{DiagnosisValue}
use Rattle.rpki_rules.specs.DiagnosisViews.{diagnosis_of}
use Rattle.rpki_walk.specs.Diagnosed.{DiagnosesAt, ToldValue, TellsAt, told_of, IsOnly, Adds}
use Rattle.rpki_walk.proofs.Mems.{mem_get_or}
use Rattle.rpki_walk.proofs.Diagnosed.{adds_next, only_adds, only_keeps}
use Rattle.rpki_walk.proofs.diagnosis.judged.judge_files.Goals as goal
use Rattle.rpki_walk.proofs.diagnosis.judged.judge_files.Goals.{in-Some+in_ok-push, in_default}

pub judged_file-requires : goal.judged_file-requires
judged_file-requires g c =
    let fs = c.uris-file-items.result.now in let i = c.loop-file.file-index in let d = c.file-item.result in
    subst (λ (u : List ℕ). Mem (files (g.S.Repository.cert c.args.ca.now) (g.S.Repository.point c.args.point.now).manifest) u) (sym c.file-item.is)
    (subst (λ (xs : List (List ℕ)). Mem xs (get_or fs i d)) c.uris-file-items.ensures (mem_get_or fs i d c.loop-file-test.true))

pub loop-file-preserved : goal.loop-file-preserved
loop-file-preserved g c =
    let w = g.S.Repository.world c.args.repository.now in let held = InSet (g.S.Repository.sets c.args.ca.now) in
    let ca = g.S.Repository.cert c.args.ca.now in let p = g.S.Repository.point c.args.point.now in
    let path = path_of c.args.chain.now.path.now.value in let on = c.args.chain.now.keys.now in
    let fs = c.uris-file-items.result.now in let i = c.loop-file.file-index in
    let d = c.file-item.result in let o = c.in_ok-wrong.field-0 in let inv = c.loop-file.invariant in let file = get_or fs i d in
    let old = c.args.found.now.items in let mid = c.loop-file.found.items in let new = c.match-branch-2.found.items in
    let only : IsOnly diagnosis_of (DiagnosesAt w held on path ca p file) o =
    subst (λ (u : List ℕ). IsOnly diagnosis_of (DiagnosesAt w held on path ca p u) o) c.file-item.is (subst (λ (v : World). IsOnly diagnosis_of (DiagnosesAt v held on path ca p d) o) inv.same c.in_ok-wrong.ensures.wrong) in
    let tells : IsOnly told_of (TellsAt w held on path ca p file) o =
    subst (λ (u : List ℕ). IsOnly told_of (TellsAt w held on path ca p u) o) c.file-item.is (subst (λ (v : World). IsOnly told_of (TellsAt v held on path ca p d) o) inv.same c.in_ok-wrong.ensures.told) in
    let wrong : Adds diagnosis_of mid (DiagnosesAt w held on path ca p file) new = elim c.match-branch-2.branch [
      | in-Some+in_ok-push v ↦ only_adds diagnosis_of (DiagnosesAt w held on path ca p file) o only mid new v.in-Some.wrong v.in-Some.is (ap (λ q. q.items) v.found-is ∙ v.in_ok-push.ensures.items)
      | in_default v ↦ only_keeps diagnosis_of (DiagnosesAt w held on path ca p file) o only mid new v.in_default.not-Some (ap (λ q. q.items) v.found-is)
    ] in
    let told : Adds told_of mid (TellsAt w held on path ca p file) new = elim c.match-branch-2.branch [
      | in-Some+in_ok-push v ↦ only_adds told_of (TellsAt w held on path ca p file) o tells mid new v.in-Some.wrong v.in-Some.is (ap (λ q. q.items) v.found-is ∙ v.in_ok-push.ensures.items)
      | in_default v ↦ only_keeps told_of (TellsAt w held on path ca p file) o tells mid new v.in_default.not-Some (ap (λ q. q.items) v.found-is)
    ] in
    record {
      same = c.in_ok-wrong.ensures.same ∙ inv.same;
      lender = c.in_ok-wrong.ensures.lender ∙ inv.lender;
      wrong = adds_next diagnosis_of (DiagnosesAt w held on path ca p) old mid new fs i d c.loop-file-test.true inv.wrong wrong;
      told = adds_next told_of (TellsAt w held on path ca p) old mid new fs i d c.loop-file-test.true inv.told told;
    }

pub returns-clause-wrong : goal.returns-clause-wrong
returns-clause-wrong g c =
    let w = g.S.Repository.world c.args.repository.now in let held = InSet (g.S.Repository.sets c.args.ca.now) in
    let ca = g.S.Repository.cert c.args.ca.now in let p = g.S.Repository.point c.args.point.now in
    let path = path_of c.args.chain.now.path.now.value in let on = c.args.chain.now.keys.now in
    let fs = c.uris-file-items.result.now in let i = c.loop-file.file-index in
    subst (λ (xs : List (List ℕ)). Adds diagnosis_of c.args.found.now.items (λ (d : DiagnosisValue). (u : List ℕ) × Mem xs u × DiagnosesAt w held on path ca p u d) c.loop-file.found.items)
    (take_all i fs c.loop-file-test.false ∙ c.uris-file-items.ensures) c.loop-file.invariant.wrong

pub returns-clause-told : goal.returns-clause-told
returns-clause-told g c =
    let w = g.S.Repository.world c.args.repository.now in let held = InSet (g.S.Repository.sets c.args.ca.now) in
    let ca = g.S.Repository.cert c.args.ca.now in let p = g.S.Repository.point c.args.point.now in
    let path = path_of c.args.chain.now.path.now.value in let on = c.args.chain.now.keys.now in
    let fs = c.uris-file-items.result.now in let i = c.loop-file.file-index in
    subst (λ (xs : List (List ℕ)). Adds told_of c.args.found.now.items (λ (t : ToldValue). (u : List ℕ) × Mem xs u × TellsAt w held on path ca p u t) c.loop-file.found.items)
    (take_all i fs c.loop-file-test.false ∙ c.uris-file-items.ensures) c.loop-file.invariant.told
