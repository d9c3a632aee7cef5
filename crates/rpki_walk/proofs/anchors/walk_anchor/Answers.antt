use Rattle.std.proofs.Common.{◌∷◌, [], List, ℕ, OnOk, ap, subst, ◌∙◌}
use Rattle.rpki_rules.specs.Views.{PathValue, path_of}
use Rattle.rpki_walk.specs.Facts.{Walks}
use Rattle.rpki_walk.proofs.anchors.walk_anchor.Goals as goal

pub returns-clause-facts : goal.returns-clause-facts
returns-clause-facts g c =
    let told = λ (path : PathValue) (on : List (List ℕ)). OnOk c.walk_from.result (Walks g.V.Visitor.wants (g.V.Visitor.uris c.args.visitor.now) (g.S.Repository.world c.args.repository.now) path on c.args.uri.now (g.S.Repository.cert c.args.anchor.now) (g.S.Repository.sets c.args.anchor.now) (g.V.Visitor.has c.args.visitor.now) (g.V.Visitor.has c.walk_from.new.visitor)) in
    let path = ap path_of c.in_ok-path.ensures.ok ∙ (c.in_ok-new.ensures ∙ λ i. record { locator = c.name.view_is i; chain = c.in_ok-clone.ensures.cases i ∷ [] }) in
    let on = ap (λ (k : List ℕ). k ∷ []) c.in_ok-key_identifier.ensures in
    subst (λ (w : PathValue). told w ((g.S.Repository.cert c.args.anchor.now).tbs.subject_key_identifier ∷ [])) path (subst (λ (k : List (List ℕ)). told (path_of c.in_ok-path.path.value) k) on c.walk_from.ensures.facts)
