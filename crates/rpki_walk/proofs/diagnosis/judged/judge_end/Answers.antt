use Rattle.std.proofs.Common.{◌≡◌, ℕ, List, Ok, Err, subst, ◌∙◌}
use Rattle.rpki_rules.specs.World.{World}
use Rattle.rpki_rules.specs.Words.{Mem}
use Rattle.rpki_rules.specs.Kinds.{InSet}
use Rattle.rpki_rules.specs.Points.{files}
use Rattle.rpki_rules.specs.Views.{path_of}
use Rattle.rpki_rules.specs.ReasonViews.{point_reason_of}
use Rattle.rpki_rules.specs.Diagnoses.{OfPoint, DiagnosisValue, on_chain, DiagnosesEnd, TellsEnd}
use Rattle.rpki_rules.specs.DiagnosisViews.{diagnosis_of, point_numbers}
use Rattle.rpki_walk.specs.Diagnosed.{DiagnosesAt, ToldValue, TellsAt, told_of, Adds}
use Rattle.rpki_walk.proofs.Leading.{on_ok}
use Rattle.rpki_walk.proofs.Diagnosed.{told_at, adds_one, adds_same, files_are, files_tell, point_answer, point_is, point_tells, only_same}
use Rattle.rpki_walk.proofs.diagnosis.judged.judge_end.Goals as goal

pub returns-in-Ok-clause-wrong : goal.returns-in-Ok-clause-wrong
returns-in-Ok-clause-wrong g c =
    let w = g.S.Repository.world c.args.repository.now in let held = InSet (g.S.Repository.sets c.args.ca.now) in
    let ca = g.S.Repository.cert c.args.ca.now in let path = path_of c.args.chain.now.path.now.value in
    let on = c.args.chain.now.keys.now in let uri = c.args.chain.now.uri.now in
    let p = g.S.Repository.point c.in-Ok.point in let old = c.args.found.now.items in let new = c.judge_files.new.found.items in
    let s = point_answer g.S.Repository.point w held ca c.in_ok-point.field-0 (Ok c.in-Ok.point) c.in-Ok.is c.in_ok-point.ensures.judged in
    let said : World → Type 0 = λ v. Adds diagnosis_of old (λ (d : DiagnosisValue). (u : List ℕ) × Mem (files ca p.manifest) u × DiagnosesAt v held on path ca p u d) new in
    on_ok c.judge_files.result (λ (a : said (g.S.Repository.world c.judged_point.new.self)).
    adds_same diagnosis_of (λ (d : DiagnosisValue). (u : List ℕ) × Mem (files ca p.manifest) u × DiagnosesAt w held on path ca p u d) (DiagnosesEnd w held on path uri ca) old new
    (subst said c.in_ok-point.ensures.same a) (files_are w held on path ca uri p s)) c.judge_files.ensures.wrong

pub returns-in-Ok-clause-told : goal.returns-in-Ok-clause-told
returns-in-Ok-clause-told g c =
    let w = g.S.Repository.world c.args.repository.now in let held = InSet (g.S.Repository.sets c.args.ca.now) in
    let ca = g.S.Repository.cert c.args.ca.now in let path = path_of c.args.chain.now.path.now.value in
    let on = c.args.chain.now.keys.now in let uri = c.args.chain.now.uri.now in
    let p = g.S.Repository.point c.in-Ok.point in let old = c.args.found.now.items in let new = c.judge_files.new.found.items in
    let s = point_answer g.S.Repository.point w held ca c.in_ok-point.field-0 (Ok c.in-Ok.point) c.in-Ok.is c.in_ok-point.ensures.judged in
    let said : World → Type 0 = λ v. Adds told_of old (λ (t : ToldValue). (u : List ℕ) × Mem (files ca p.manifest) u × TellsAt v held on path ca p u t) new in
    on_ok c.judge_files.result (λ (a : said (g.S.Repository.world c.judged_point.new.self)).
    adds_same told_of (λ (t : ToldValue). (u : List ℕ) × Mem (files ca p.manifest) u × TellsAt w held on path ca p u t) (λ (t : ToldValue). TellsEnd w held on path uri ca t.diagnosis t.numbers) old new
    (subst said c.in_ok-point.ensures.same a) (files_tell w held on path ca uri p s)) c.judge_files.ensures.told

pub returns-in_ok-push-in-Err-clause-wrong : goal.returns-in_ok-push-in-Err-clause-wrong
returns-in_ok-push-in-Err-clause-wrong g c =
    let w = g.S.Repository.world c.args.repository.now in let held = InSet (g.S.Repository.sets c.args.ca.now) in
    let ca = g.S.Repository.cert c.args.ca.now in let path = path_of c.args.chain.now.path.now.value in
    let on = c.args.chain.now.keys.now in let uri = c.args.chain.now.uri.now in
    let r = c.in-Err.reason in let z = c.new-wrong.result in let old = c.args.found.now.items in let new = c.push.new.self.items in
    let j = point_answer g.S.Repository.point w held ca c.in_ok-point.field-0 (Err r) c.in-Err.is c.in_ok-point.ensures.judged in
    let e : diagnosis_of z ≡ on_chain path uri (OfPoint (point_reason_of r)) = c.new-wrong.ensures.value ∙ (λ i. on_chain (path_of (c.in_ok-clone-in-Err-2.ensures.cases i)) (c.in_ok-clone-in-Err.ensures.cases i) (OfPoint (point_reason_of r))) in
    adds_one diagnosis_of (DiagnosesEnd w held on path uri ca) old new z c.in_ok-push-in-Err.ensures.items
    (only_same (DiagnosesEnd w held on path uri ca) (diagnosis_of z) (on_chain path uri (OfPoint (point_reason_of r))) e (point_is w held on path ca uri (point_reason_of r) j.0))

pub returns-in_ok-push-in-Err-clause-told : goal.returns-in_ok-push-in-Err-clause-told
returns-in_ok-push-in-Err-clause-told g c =
    let w = g.S.Repository.world c.args.repository.now in let held = InSet (g.S.Repository.sets c.args.ca.now) in
    let ca = g.S.Repository.cert c.args.ca.now in let path = path_of c.args.chain.now.path.now.value in
    let on = c.args.chain.now.keys.now in let uri = c.args.chain.now.uri.now in
    let r = c.in-Err.reason in let z = c.new-wrong.result in let old = c.args.found.now.items in let new = c.push.new.self.items in
    let j = point_answer g.S.Repository.point w held ca c.in_ok-point.field-0 (Err r) c.in-Err.is c.in_ok-point.ensures.judged in
    let e : diagnosis_of z ≡ on_chain path uri (OfPoint (point_reason_of r)) = c.new-wrong.ensures.value ∙ (λ i. on_chain (path_of (c.in_ok-clone-in-Err-2.ensures.cases i)) (c.in_ok-clone-in-Err.ensures.cases i) (OfPoint (point_reason_of r))) in
    let f : told_of z ≡ told_at (on_chain path uri (OfPoint (point_reason_of r))) (point_numbers r) = λ i. told_at (e i) (c.new-wrong.ensures.unheld i) in
    let tells : ToldValue → Type 0 = λ t. TellsEnd w held on path uri ca t.diagnosis t.numbers in
    adds_one told_of tells old new z c.in_ok-push-in-Err.ensures.items
    (only_same tells (told_of z) (told_at (on_chain path uri (OfPoint (point_reason_of r))) (point_numbers r)) f (point_tells w held on path ca uri r j))
