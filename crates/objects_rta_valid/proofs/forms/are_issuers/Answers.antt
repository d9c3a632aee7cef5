use Rattle.std.proofs.Common.{refl}
use Rattle.objects_rta_valid.proofs.Steps.{each_ends, each_more, each_stops}
use Rattle.std.proofs.Common.{ℕ}
use Rattle.certs_verify.specs.certs_key.Digesting.{digests_of}
use Rattle.objects_rta_valid.specs.Places.{Stands}
use Rattle.objects_rta_valid.specs.Certs.{HasIssuerForm}
use Rattle.objects_rta_valid.proofs.forms.are_issuers.Goals as goal

pub returns-then-not-is_issuer_at : goal.returns-then-not-is_issuer_at
returns-then-not-is_issuer_at g c =
    let P : ℕ × ℕ → Type 0 = λ (q : ℕ × ℕ). Stands c.args.certs.now q.1 (HasIssuerForm (digests_of g.D.Digester.sha256_digest g.D.Digester.sha1_digest c.args.digester.now) c.args.strict) in
    ((λ t. absurd cc), (λ w. absurd (each_stops P _ _ _ _ c.in-Some.ensures.cases.0 (λ p. let yes = c.is_issuer_at.ensures.1 p in let none = c.if-not-is_issuer_at.true in absurd cc) c.loop-pair.invariant w)))

pub loop-pair-preserved : goal.loop-pair-preserved
loop-pair-preserved g c =
    let P : ℕ × ℕ → Type 0 = λ (q : ℕ × ℕ). Stands c.args.certs.now q.1 (HasIssuerForm (digests_of g.D.Digester.sha256_digest g.D.Digester.sha1_digest c.args.digester.now) c.args.strict) in
    each_more P _ _ _ _ c.in-Some.ensures.cases.0 (c.is_issuer_at.ensures.0 c.if-not-is_issuer_at.false) c.loop-pair.invariant

pub returns : goal.returns
returns g c =
    let P : ℕ × ℕ → Type 0 = λ (q : ℕ × ℕ). Stands c.args.certs.now q.1 (HasIssuerForm (digests_of g.D.Digester.sha256_digest g.D.Digester.sha1_digest c.args.digester.now) c.args.strict) in
    ((λ t. each_ends P _ _ c.in_default.ensures.cases c.loop-pair.invariant), (λ w. refl))
