use Rattle.std.proofs.Common.{sym}
use Rattle.rpki_steps.specs.certs_extension.declared.forms.Role.TheVariants.{Ca}
use Rattle.rpki_rules.specs.FileReasons.{PassesRevocation, revocation_tests}
use Rattle.rpki_rules.specs.Reasons.{PassesCert, cert_tests}
use Rattle.rpki_rules.proofs.Firsts.{none_fails}
use Rattle.rpki_standing.specs.Readers.{world_by}
use Rattle.rpki_steps.proofs.Passing.{never, told_ok}
use Rattle.rpki_steps.proofs.issued.sound.is_sound_below.Goals as goal

pub returns-in-Ok-clause-sound : goal.returns-in-Ok-clause-sound
returns-in-Ok-clause-sound g c =
    let w = world_by g.D.Digester.sha256_digest g.D.Digester.sha1_digest g.V.Verifier.says c.args.reader.now in
    let p = c.args.point.now.point in
    let cert = c.args.cert.now in
    let revocation = c.revocation_tests_are_rules.ensures p cert in
    let unrevoked = rw c.in-Ok.is at (c.in_ok-check_revocation.ensures p (sym c.manifest_cert.ensures) (sym c.crl.ensures)) in
    let law = c.cert_tests_are_rules.ensures w Ca c.args.ca.now cert in
    let told = told_ok (PassesCert w Ca c.args.ca.now cert) (cert_tests Ca) c.check_authority_cert.result c.is_ok.result c.is_ok.ensures.value c.check_authority_cert.ensures.told in (
      λ t. let both = law.0 (told.0 t) in record { profile = both.0; signed = both.1; unrevoked = revocation.0 unrevoked },
      λ s. told.1 (law.1 (s.profile, s.signed)),
    )

pub returns-in-Err-clause-sound : goal.returns-in-Err-clause-sound
returns-in-Err-clause-sound g c =
    let p = c.args.point.now.point in
    let cert = c.args.cert.now in
    let revocation = c.revocation_tests_are_rules.ensures p cert in
    never (λ s. none_fails (PassesRevocation p cert) revocation_tests c.in-Err.field-0 (revocation.1 s.unrevoked) (rw c.in-Err.is at (c.in_ok-check_revocation.ensures p (sym c.manifest_cert.ensures) (sym c.crl.ensures))))
