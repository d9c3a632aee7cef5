use Rattle.std.proofs.Common.{refl}
use Rattle.objects_rta_valid.proofs.Steps.{each_ends, each_more, each_stops}
use Rattle.certs_verify.specs.certs_extension.Cert.{CertValue}
use Rattle.objects_rta_valid.specs.Certs.{IsCurrent}
use Rattle.objects_rta_valid.proofs.forms.are_current.Goals as goal

pub returns-then-not-is_current : goal.returns-then-not-is_current
returns-then-not-is_current c =
    let P : CertValue → Type 0 = IsCurrent c.args.now in
    ((λ t. absurd cc), (λ w. absurd (each_stops P _ _ _ _ c.in-Some.ensures.cases.0 (λ p. let yes = c.is_current.ensures.1 p in let none = c.if-not-is_current.true in absurd cc) c.loop-cert.invariant w)))

pub loop-cert-preserved : goal.loop-cert-preserved
loop-cert-preserved c =
    let P : CertValue → Type 0 = IsCurrent c.args.now in
    each_more P _ _ _ _ c.in-Some.ensures.cases.0 (c.is_current.ensures.0 c.if-not-is_current.false) c.loop-cert.invariant

pub returns : goal.returns
returns c =
    let P : CertValue → Type 0 = IsCurrent c.args.now in
    ((λ t. each_ends P _ _ c.in_default.ensures.cases c.loop-cert.invariant), (λ w. refl))
