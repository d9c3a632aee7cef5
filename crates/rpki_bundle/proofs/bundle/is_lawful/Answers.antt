use Rattle.std.proofs.Common.{refl, sym, ◌∙◌, subst}
use Rattle.rpki_bundle.specs.Bundle.{IsDepth}
use Rattle.rpki_bundle.specs.Lawful.{IsLawfulList}
use Rattle.rpki_bundle.specs.PartFields.{parts_value}
use Rattle.rpki_bundle.proofs.Texts.{text_lawful, counted_spelled, spelled_counted}
use Rattle.rpki_bundle.proofs.bundle.is_lawful.Goals as goal

pub returns-then-not-is_depth : goal.returns-then-not-is_depth
returns-then-not-is_depth c = (λ t. absurd cc, λ s. let l = text_lawful s.1 in let t = c.if-not-is_depth.ensures.1 (l.lowest, l.greatest) in absurd cc)

pub returns-then-not-is_lawful_list : goal.returns-then-not-is_lawful_list
returns-then-not-is_lawful_list c = (λ t. absurd cc, λ s. let t = c.if-not-is_lawful_list.ensures.1 (subst (IsLawfulList _ _) (sym c.as_slice.ensures.value) (text_lawful s.1).locators) in absurd cc)

pub returns-then-not-is_lawful_list-2 : goal.returns-then-not-is_lawful_list-2
returns-then-not-is_lawful_list-2 c = (λ t. absurd cc, λ s. let t = c.if-not-is_lawful_list-2.ensures.1 (subst (IsLawfulList _ _) (sym c.as_slice-2.ensures.value) (text_lawful s.1).objects) in absurd cc)

pub returns-then-not-is_lawful_list-3 : goal.returns-then-not-is_lawful_list-3
returns-then-not-is_lawful_list-3 c = (λ t. absurd cc, λ s. let t = c.if-not-is_lawful_list-3.ensures.1 (subst (IsLawfulList _ _) (sym c.as_slice-3.ensures.value) (text_lawful s.1).verdicts) in absurd cc)

pub returns : goal.returns
returns c =
    let b = parts_value c.args.parts.now in
    let text = c.generalized-text.result in
    let m = c.generalized-text.ensures in
    let depth : IsDepth b.depth = c.if-not-is_depth.ensures.0 refl in (
      λ t. counted_spelled text b c.members_len.result m (record {
        lowest = depth.0;
        greatest = depth.1;
        locators = subst (IsLawfulList _ _) c.as_slice.ensures.value (c.if-not-is_lawful_list.ensures.0 refl);
        objects = subst (IsLawfulList _ _) c.as_slice-2.ensures.value (c.if-not-is_lawful_list-2.ensures.0 refl);
        verdicts = subst (IsLawfulList _ _) c.as_slice-3.ensures.value (c.if-not-is_lawful_list-3.ensures.0 refl);
      }) c.members_len.ensures.len (sym c.is_ok.ensures.value ∙ t),
      λ s. c.is_ok.ensures.value ∙ spelled_counted text b c.members_len.result m c.members_len.ensures.refused s,
    )
