use Rattle.certs_verify.specs.certs_extension.Cert.{CertValue}
use Rattle.certs_verify.specs.certs_key.Digesting.{digests_of}
use Rattle.objects_rta_valid.specs.Certs.{HasSignerForm}
use Rattle.objects_rta_valid.proofs.Standing.{none_stands, not_told, stands_told}
use Rattle.objects_rta_valid.proofs.forms.is_signer_at.Goals as goal

pub returns-in-Some : goal.returns-in-Some
returns-in-Some g c =
    let P : CertValue → Type 0 = HasSignerForm (digests_of g.D.Digester.sha256_digest g.D.Digester.sha1_digest c.args.digester.now) c.args.strict in
    stands_told P c.args.certs.now c.args.place c.in-Some.cert.now c.has_signer_form.result c.in-Some.ensures c.has_signer_form.ensures

pub returns-in-None : goal.returns-in-None
returns-in-None g c =
    let P : CertValue → Type 0 = HasSignerForm (digests_of g.D.Digester.sha256_digest g.D.Digester.sha1_digest c.args.digester.now) c.args.strict in
    not_told (none_stands P c.args.certs.now c.args.place c.in-None.ensures)
