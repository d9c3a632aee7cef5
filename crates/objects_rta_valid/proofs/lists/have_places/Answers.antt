use Rattle.std.proofs.Common.{refl}
use Rattle.certs_verify.specs.certs_extension.CrlText.{CrlValue}
use Rattle.objects_rta_valid.specs.Keyed.{HasPlace}
use Rattle.objects_rta_valid.specs.Vouched.{authority_of}
use Rattle.objects_rta_valid.proofs.Steps.{each_ends, each_more, each_stops}
use Rattle.objects_rta_valid.proofs.lists.have_places.Goals as goal

pub returns-then-not-has_place : goal.returns-then-not-has_place
returns-then-not-has_place c =
    let P : CrlValue → Type 0 = λ (crl : CrlValue). HasPlace c.args.places.now (authority_of crl) in
    ((λ t. absurd cc), (λ w. absurd (each_stops P _ _ _ _ c.in-Some.ensures.cases.0 (λ p. let yes = c.has_place.ensures.1 p in let none = c.if-not-has_place.true in absurd cc) c.loop-crl.invariant w)))

pub loop-crl-preserved : goal.loop-crl-preserved
loop-crl-preserved c =
    let P : CrlValue → Type 0 = λ (crl : CrlValue). HasPlace c.args.places.now (authority_of crl) in
    each_more P _ _ _ _ c.in-Some.ensures.cases.0 (c.has_place.ensures.0 c.if-not-has_place.false) c.loop-crl.invariant

pub returns : goal.returns
returns c =
    let P : CrlValue → Type 0 = λ (crl : CrlValue). HasPlace c.args.places.now (authority_of crl) in
    ((λ t. each_ends P _ _ c.in_default.ensures.cases c.loop-crl.invariant), (λ w. refl))
