use Rattle.std.proofs.Common.{◌∙◌, ap, codes}
use Rattle.rpki_validator.specs.rpki_rules.Views.{witness_of}
use Rattle.rpki_reasons.specs.Json.{json_string}
use Rattle.rpki_questions.specs.Chained.{path_members}
use Rattle.rpki_questions.proofs.FactTexts.{behind_member}
use Rattle.rpki_questions.proofs.texts.push_witness_object.Goals as goal

pub returns : goal.returns
returns c =
    let t = witness_of c.args.witness.now in
    behind_member c.push_path_members.result _ c.push_object_member.new.text.items _ (codes "{\"object\":") (json_string c.as_slice.result.now) (json_string t.object) (codes ",")
    (path_members c.as_slice-2.result.now c.chain.result.now) (path_members t.locator t.chain)
    c.in_ok-push_object_member.ensures
    (ap json_string (c.as_slice.ensures ∙ c.object.ensures))
    (ap (λ l. path_members l c.chain.result.now) (c.as_slice-2.ensures ∙ c.locator.ensures) ∙ ap (path_members t.locator) c.chain.ensures)
    c.push_path_members.ensures
