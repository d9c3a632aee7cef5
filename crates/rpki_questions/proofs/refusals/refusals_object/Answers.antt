use Rattle.std.proofs.Common.{◌++◌, ◌∷◌, ◌∙◌, [], List, ℕ, ap, codes, drop, flat_map}
use Rattle.rpki_questions.specs.Orders.{refused_of}
use Rattle.rpki_questions.specs.Refused.{refused_object}
use Rattle.rpki_questions.proofs.FactTexts.{each_array, one_array}
use Rattle.rpki_questions.proofs.refusals.refusals_object.Goals as goal

pub returns : goal.returns
returns c =
    let found = c.args.refused.now in
    let values = c.as_slice.ensures.value ∙ c.in_ok-push_each.ensures ∙ ap (λ (t : List ℕ). t ++ flat_map (λ r. 44 ∷ refused_object (refused_of r)) found) c.new-values.ensures.items in
    one_array (codes "{\"refused\":") _ _ (codes "}\n") _ _ _ c.in_ok-text.ensures.items c.in_ok-push_array.ensures
    (ap (λ (t : List ℕ). 91 ∷ (drop 1 t ++ 93 ∷ [])) values ∙ each_array refused_object refused_of found)
    c.in_ok-extend_from_slice.ensures.items
