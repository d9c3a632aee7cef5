use Rattle.std.proofs.Common.{◌≡◌, None, Some, ◌∙◌}
use Rattle.rpki_rules.specs.Kinds.{InSet}
use Rattle.rpki_rules.specs.Views.{path_of}
use Rattle.rpki_rules.specs.Diagnoses.{OfFile, on_chain}
use Rattle.rpki_rules.specs.ReasonViews.{file_reason_of}
use Rattle.rpki_rules.specs.DiagnosisViews.{diagnosis_of, file_numbers}
use Rattle.rpki_walk.specs.Diagnosed.{DiagnosesAt, TellsAt, told_of}
use Rattle.rpki_walk.proofs.Diagnosed.{told_at, file_answer, file_is, file_tells, only_same}
use Rattle.rpki_walk.proofs.diagnosis.judged.judged_file.Goals as goal

pub returns-in-None-clause-wrong : goal.returns-in-None-clause-wrong
returns-in-None-clause-wrong g c x a =
    file_answer (g.S.Repository.world c.args.repository.now) (InSet (g.S.Repository.sets c.args.ca.now)) c.args.chain.now.keys.now (g.S.Repository.cert c.args.ca.now) (g.S.Repository.point c.args.point.now) c.as_slice.result.now c.args.file.now c.as_slice.ensures c.in_ok-file_reason.field-0 None c.in-None.is c.in_ok-file_reason.ensures.reason a.reason a.fails

pub returns-in-None-clause-told : goal.returns-in-None-clause-told
returns-in-None-clause-told g c x t =
    file_answer (g.S.Repository.world c.args.repository.now) (InSet (g.S.Repository.sets c.args.ca.now)) c.args.chain.now.keys.now (g.S.Repository.cert c.args.ca.now) (g.S.Repository.point c.args.point.now) c.as_slice.result.now c.args.file.now c.as_slice.ensures c.in_ok-file_reason.field-0 None c.in-None.is c.in_ok-file_reason.ensures.reason t.0.reason t.0.fails

pub returns-in_ok-clone-in-Some-2-clause-wrong : goal.returns-in_ok-clone-in-Some-2-clause-wrong
returns-in_ok-clone-in-Some-2-clause-wrong g c =
    let w = g.S.Repository.world c.args.repository.now in let held = InSet (g.S.Repository.sets c.args.ca.now) in
    let ca = g.S.Repository.cert c.args.ca.now in let p = g.S.Repository.point c.args.point.now in
    let path = path_of c.args.chain.now.path.now.value in let on = c.args.chain.now.keys.now in let uri = c.args.file.now in let r = c.in-Some.reason in
    let h = file_answer w held on ca p c.as_slice.result.now uri c.as_slice.ensures c.in_ok-file_reason.field-0 (Some r) c.in-Some.is c.in_ok-file_reason.ensures.reason in
    let e : diagnosis_of c.new-in-Some.result ≡ on_chain path uri (OfFile (file_reason_of r)) = c.new-in-Some.ensures.value ∙ (λ i. on_chain (path_of (c.in_ok-clone-in-Some-2.ensures.cases i)) (c.in_ok-clone-in-Some.ensures.cases i) (OfFile (file_reason_of r))) in
    only_same (DiagnosesAt w held on path ca p uri) (diagnosis_of c.new-in-Some.result) (on_chain path uri (OfFile (file_reason_of r))) e (file_is w held on path ca p uri (file_reason_of r) h.0)

pub returns-in_ok-clone-in-Some-2-clause-told : goal.returns-in_ok-clone-in-Some-2-clause-told
returns-in_ok-clone-in-Some-2-clause-told g c =
    let w = g.S.Repository.world c.args.repository.now in let held = InSet (g.S.Repository.sets c.args.ca.now) in
    let ca = g.S.Repository.cert c.args.ca.now in let p = g.S.Repository.point c.args.point.now in
    let path = path_of c.args.chain.now.path.now.value in let on = c.args.chain.now.keys.now in let uri = c.args.file.now in let r = c.in-Some.reason in
    let h = file_answer w held on ca p c.as_slice.result.now uri c.as_slice.ensures c.in_ok-file_reason.field-0 (Some r) c.in-Some.is c.in_ok-file_reason.ensures.reason in
    let e : diagnosis_of c.new-in-Some.result ≡ on_chain path uri (OfFile (file_reason_of r)) = c.new-in-Some.ensures.value ∙ (λ i. on_chain (path_of (c.in_ok-clone-in-Some-2.ensures.cases i)) (c.in_ok-clone-in-Some.ensures.cases i) (OfFile (file_reason_of r))) in
    let f : told_of c.new-in-Some.result ≡ told_at (on_chain path uri (OfFile (file_reason_of r))) (file_numbers r) = λ i. told_at (e i) (c.new-in-Some.ensures.unheld i) in
    only_same (TellsAt w held on path ca p uri) (told_of c.new-in-Some.result) (told_at (on_chain path uri (OfFile (file_reason_of r))) (file_numbers r)) f (file_tells w held on path ca p uri r h)
