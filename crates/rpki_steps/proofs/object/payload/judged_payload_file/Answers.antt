use Rattle.std.proofs.Common.{sym}
use Rattle.rpki_standing.specs.Readers.{world_by}
use Rattle.rpki_standing.proofs.Soundness.{reading_of}
use Rattle.rpki_steps.proofs.PayloadFiles.{good, no_object, not_within}
use Rattle.rpki_steps.proofs.object.payload.judged_payload_file.Goals as goal

pub returns-in-Err-clause-judged : goal.returns-in-Err-clause-judged
returns-in-Err-clause-judged g c = λ e l.
    let found = (rw (c.in-Err.is, c.as_cert-cert.ensures, c.verified-ca.ensures.cert) at (c.in_ok-object.ensures.found c.args.point.now.point (sym c.manifest_cert-ee.ensures) (sym c.crl-crl.ensures))) l in
    no_object _ c.args.ca.now _ _ c.in-Err.reason e found

pub returns-in-Ok-Ok-clause-judged : goal.returns-in-Ok-Ok-clause-judged
returns-in-Ok-Ok-clause-judged g c = λ e l.
    let w = world_by g.D.Digester.sha256_digest g.D.Digester.sha1_digest g.V.Verifier.says c.args.reader.now in
    let found = (rw (c.in-Ok.is, c.as_cert-cert.ensures, c.verified-ca.ensures.cert) at (c.in_ok-object.ensures.found c.args.point.now.point (sym c.manifest_cert-ee.ensures) (sym c.crl-crl.ensures))) l in
    good w c.args.ca.now _ _ c.in-Ok.object found c.into_payload.result c.into_payload.ensures ((rw (c.verified-ca.ensures.cert, c.in-Ok-Ok.field-0-is) at c.in-Ok-Ok.ensures.told) w _)

pub returns-in-Ok-Err-clause-judged : goal.returns-in-Ok-Err-clause-judged
returns-in-Ok-Err-clause-judged g c = λ e l.
    let w = world_by g.D.Digester.sha256_digest g.D.Digester.sha1_digest g.V.Verifier.says c.args.reader.now in
    let found = (rw (c.in-Ok.is, c.as_cert-cert.ensures, c.verified-ca.ensures.cert) at (c.in_ok-object.ensures.found c.args.point.now.point (sym c.manifest_cert-ee.ensures) (sym c.crl-crl.ensures))) l in
    not_within w c.args.ca.now _ _ c.in-Ok.object found c.in-Ok-Err.test ((rw (c.verified-ca.ensures.cert, c.in-Ok-Err.field-0-is) at c.in-Ok-Err.ensures.told) w _)
    ((rw (c.verified-ca.ensures.cert, c.in-Ok-Err.field-0-is) at c.in-Ok-Err.ensures.unheld) w _ (reading_of w _ _ _ _ _ found))
