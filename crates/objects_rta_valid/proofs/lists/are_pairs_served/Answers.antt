use Rattle.std.proofs.Common.{refl}
use Rattle.objects_rta_valid.proofs.Steps.{each_ends, each_more, each_stops}
use Rattle.std.proofs.Common.{ℕ}
use Rattle.certs_verify.specs.certs_extension.Cert.{CertValue}
use Rattle.objects_rta_valid.specs.Places.{Stands}
use Rattle.objects_rta_valid.specs.Vouched.{Has, Serves}
use Rattle.objects_rta_valid.proofs.lists.are_pairs_served.Goals as goal

pub returns-then-not-is_pair_served : goal.returns-then-not-is_pair_served
returns-then-not-is_pair_served c =
    let P : ℕ × ℕ → Type 0 = λ (q : ℕ × ℕ). Stands c.args.certs.now q.0 (λ (x : CertValue). Stands c.args.certs.now q.1 (λ (p : CertValue). Has (Serves p x) c.args.lists.now)) in
    ((λ t. absurd cc), (λ w. absurd (each_stops P _ _ _ _ c.in-Some.ensures.cases.0 (λ p. let yes = c.is_pair_served.ensures.1 p in let none = c.if-not-is_pair_served.true in absurd cc) c.loop-pair.invariant w)))

pub loop-pair-preserved : goal.loop-pair-preserved
loop-pair-preserved c =
    let P : ℕ × ℕ → Type 0 = λ (q : ℕ × ℕ). Stands c.args.certs.now q.0 (λ (x : CertValue). Stands c.args.certs.now q.1 (λ (p : CertValue). Has (Serves p x) c.args.lists.now)) in
    each_more P _ _ _ _ c.in-Some.ensures.cases.0 (c.is_pair_served.ensures.0 c.if-not-is_pair_served.false) c.loop-pair.invariant

pub returns : goal.returns
returns c =
    let P : ℕ × ℕ → Type 0 = λ (q : ℕ × ℕ). Stands c.args.certs.now q.0 (λ (x : CertValue). Stands c.args.certs.now q.1 (λ (p : CertValue). Has (Serves p x) c.args.lists.now)) in
    ((λ t. each_ends P _ _ c.in_default.ensures.cases c.loop-pair.invariant), (λ w. refl))
