use Rattle.std.proofs.Common.{sym, ap, ◌∙◌, subst}
use Rattle.rpki_bundle.specs.Bundle.{BundleValue, IsSpelled}
use Rattle.rpki_bundle.specs.PartFields.{parts_value}
use Rattle.rpki_bundle.proofs.Texts.{text_lawful, lawful_as_version, counted_spelled, spelled_counted}
use Rattle.rpki_bundle.proofs.bundle.Bundle.has_text_as.Goals as goal

pub returns : goal.returns
returns c =
    let v = c.args.version in
    let b = record (parts_value c.self.inside.parts) { version = v } in
    let view = ap (λ (x : BundleValue). record x { version = v }) c.self.view_is in
    let lawful = lawful_as_version v (text_lawful c.self.invariant.1) in
    let text = c.generalized-moment.result in
    let m = c.generalized-moment.ensures in (
      λ t. subst IsSpelled view (counted_spelled text b c.members_len.result m lawful c.members_len.ensures.len (sym c.is_ok.ensures.value ∙ t)),
      λ s. c.is_ok.ensures.value ∙ spelled_counted text b c.members_len.result m c.members_len.ensures.refused (subst IsSpelled (sym view) s),
    )
