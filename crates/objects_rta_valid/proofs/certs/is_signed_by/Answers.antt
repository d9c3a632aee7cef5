use Rattle.objects_rta_valid.proofs.Passing.{signed_of}
use Rattle.objects_rta_valid.proofs.Standing.{not_told}
use Rattle.objects_rta_valid.proofs.certs.is_signed_by.Goals as goal

pub returns-then-not-is_current-clause-signed : goal.returns-then-not-is_current-clause-signed
returns-then-not-is_current-clause-signed g c = not_told (λ s. let t = c.is_current.ensures.1 (s.0, s.1.0) in let f = c.if-not-is_current.true in absurd cc)

pub returns-then-claims-clause-signed : goal.returns-then-claims-clause-signed
returns-then-claims-clause-signed g c =
    let v = g.V.Verifier.says c.args.verifier.now in (
      λ t. signed_of v c.args.now c.args.issuer.now c.args.cert.now (c.is_current.ensures.0 c.if-not-is_current.false) (c.claims.ensures.0 c.if-claims.true) (c.has_signature.ensures.good.0 t),
      λ s. c.has_signature.ensures.good.1 s.1.1.1.1.1.0,
    )
