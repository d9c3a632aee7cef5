use Rattle.rpki_standing.proofs.CertTexts.{no_cert}
use Rattle.rpki_standing.proofs.anchors.certs.read_cert.Goals as goal

pub returns-in-Err-Content : goal.returns-in-Err-Content
returns-in-Err-Content c =
    no_cert _ _ _ c.args.octets.now c.in-Err-Content.field-0-is (λ h. h) c.in-Err-Content.ensures c.in_ok-clone.ensures.cases
