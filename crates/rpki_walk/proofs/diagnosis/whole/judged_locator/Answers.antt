use Rattle.std.proofs.Common.{◌≡◌, [], Some, ap, ◌∙◌}
use Rattle.rpki_rules.specs.World.{World}
use Rattle.rpki_rules.specs.Views.{PathValue, path_of}
use Rattle.rpki_rules.specs.Diagnoses.{OfLocator, on_chain, DiagnosesLocator}
use Rattle.rpki_rules.specs.DiagnosisViews.{diagnosis_of}
use Rattle.rpki_walk.specs.Repository.{locator_at}
use Rattle.rpki_walk.proofs.Diagnosed.{locator_answer, locator_is, only_same}
use Rattle.rpki_walk.proofs.diagnosis.whole.judged_locator.Goals as goal

pub returns-in_ok-path-in-Some-clause-wrong : goal.returns-in_ok-path-in-Some-clause-wrong
returns-in_ok-path-in-Some-clause-wrong g c =
    let w = g.S.Repository.world c.args.repository.now in let l = locator_at w c.args.at in let r = c.in-Some.reason in
    let h = locator_answer w l c.in_ok-locator_reason.field-0 (Some r) c.in-Some.is c.in_ok-locator_reason.ensures.reason in
    let n : c.in_ok-name-in-Some.name ≡ l.name = c.in_ok-name-in-Some.ensures ∙ ap (λ (v : World). (locator_at v c.args.at).name) c.in_ok-locator_reason.ensures.same in
    let here : PathValue = record { locator = l.name; chain = [] } in
    let p : path_of c.in_ok-path-in-Some.path.value ≡ here = ap path_of c.in_ok-path-in-Some.ensures.ok ∙ (c.of_locator.ensures ∙ (λ i. record { locator = (c.in_ok-clone-in-Some.ensures.cases ∙ n) i; chain = [] })) in
    let e : diagnosis_of c.new-in-Some.result ≡ on_chain here l.name (OfLocator r) = c.new-in-Some.ensures.value ∙ (λ i. on_chain (p i) (n i) (OfLocator r)) in
    only_same (DiagnosesLocator w l) (diagnosis_of c.new-in-Some.result) (on_chain here l.name (OfLocator r)) e (locator_is w l r h)
