use Rattle.rpki_standing.proofs.CertTexts.{cert_told}
use Rattle.rpki_standing.proofs.anchors.certs.cert_at.Goals as goal

pub returns-in-Some-clause-cert : goal.returns-in-Some-clause-cert
returns-in-Some-clause-cert c =
    cert_told c.read_cert.result c.args.index.now c.args.key.now c.in-Some.object.now.octets c.in-Some.ensures.found c.read_cert.ensures
