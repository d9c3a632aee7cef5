use Rattle.std.proofs.Common.{sym}
use Rattle.rpki_steps.proofs.object.found.read_object.Goals as goal

pub returns-in-Err-clause-read : goal.returns-in-Err-clause-read
returns-in-Err-clause-read g c =
    let p = c.args.point.now.point in
    let listed = rw (c.files.ensures, c.requires) at (c.is_listed.ensures.0 c.if-not-is_listed.false) in
    (rw c.in-Err.is at (c.in_ok-object.ensures.found p (sym c.manifest_cert-ee.ensures) (sym c.crl-crl.ensures) listed)).none
