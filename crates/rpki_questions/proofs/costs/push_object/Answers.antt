use Rattle.std.proofs.Common.{◌∙◌, ap, codes}
use Rattle.std.specs.Fmt.{decimal}
use Rattle.rpki_validator.specs.rpki_walk.Cost.{count_of}
use Rattle.rpki_reasons.specs.Json.{json_string}
use Rattle.rpki_questions.proofs.FactTexts.{appended, behind_number}
use Rattle.rpki_questions.proofs.costs.push_object.Goals as goal

pub returns : goal.returns
returns c =
    let x = count_of c.args.count.now in
    behind_number c.extend_from_slice-2.result c.args.text.now.items c.extend_from_slice.new.self.items c.push_string.new.text.items _ c.as_bytes.result.now
    (codes ",{\"chains\":") (decimal c.chains.result) (decimal x.chains) (codes ",\"authority\":") (json_string c.as_slice.result.now) (json_string x.authority) (codes "}")
    (c.as_bytes.ensures.value ∙ c.in_ok-member.ensures)
    (ap decimal c.chains.ensures)
    (ap json_string (c.as_slice.ensures ∙ c.authority.ensures))
    c.in_ok-extend_from_slice.ensures.items
    c.in_ok-push_string.ensures
    (appended c.extend_from_slice-2.result _ _ _ c.extend_from_slice-2.ensures.items)
