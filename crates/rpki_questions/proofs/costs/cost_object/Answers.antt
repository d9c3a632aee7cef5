use Rattle.std.proofs.Common.{◌≡◌, ◌∙◌, ◌++◌, ◌∷◌, List, ℕ, [], ap, codes, drop, map, rules}
use Rattle.std.specs.Prelude.{flat_map}
use Rattle.rpki_validator.specs.rpki_walk.Cost.{count_of}
use Rattle.rpki_questions.specs.Costed.{count_object}
use Rattle.rpki_reasons.specs.Json.{json_array, json_bool}
use Rattle.rpki_questions.proofs.FactTexts.{closed, each_array}
use Rattle.rpki_questions.proofs.costs.cost_object.Goals as goal

pub returns : goal.returns
returns c =
    let counts = c.args.counts.now in
    let start = c.into_bytes-text.result.items in
    let member : start ≡ codes "{\"exact\":" ++ (json_bool c.args.exact ++ codes ",\"below\":") = search rules in
    let objects = c.as_slice.ensures.value ∙ c.in_ok-push_objects.ensures ∙ ap (λ (t : List ℕ). t ++ flat_map (λ x. 44 ∷ count_object (count_of x)) counts) c.new-objects.ensures.items in
    closed (codes "{\"exact\":") (json_bool c.args.exact) (codes ",\"below\":") (json_array count_object (map count_of counts)) (codes "}\n")
    start c.push_array.new.text.items c.extend_from_slice.new.self.items
    member
    (c.in_ok-push_array.ensures ∙ ap (λ (t : List ℕ). start ++ (91 ∷ (drop 1 t ++ 93 ∷ []))) objects ∙ ap (λ (t : List ℕ). start ++ t) (each_array count_object count_of counts))
    c.in_ok-extend_from_slice.ensures.items
