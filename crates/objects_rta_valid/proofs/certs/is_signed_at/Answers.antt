use Rattle.certs_verify.specs.certs_extension.Cert.{CertValue}
use Rattle.certs_verify.specs.certs_extension.Verified.{IsSignedAt}
use Rattle.objects_rta_valid.proofs.Standing.{none_stands, not_told, stands_told}
use Rattle.objects_rta_valid.proofs.certs.is_signed_at.Goals as goal

pub returns-in-Some-clause-signed : goal.returns-in-Some-clause-signed
returns-in-Some-clause-signed g c =
    let P : CertValue → Type 0 = λ (p : CertValue). IsSignedAt (g.V.Verifier.says c.args.verifier.now) c.args.now p c.args.cert.now in
    stands_told P c.args.certs.now c.args.place c.in-Some.issuer.now c.is_signed_by.result c.in-Some.ensures c.is_signed_by.ensures.signed

pub returns-in-None-clause-signed : goal.returns-in-None-clause-signed
returns-in-None-clause-signed g c =
    let P : CertValue → Type 0 = λ (p : CertValue). IsSignedAt (g.V.Verifier.says c.args.verifier.now) c.args.now p c.args.cert.now in
    not_told (none_stands P c.args.certs.now c.args.place c.in-None.ensures)
