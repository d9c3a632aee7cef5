use Rattle.std.proofs.Common.{sym}
use Rattle.rpki_rules.specs.Kinds.{Ipv4}
use Rattle.rpki_steps.proofs.CertFiles.{below, not_below, revoked}
use Rattle.rpki_steps.proofs.issued.file.child_at.Goals as goal

pub returns-in-Ok-Err-clause-found : goal.returns-in-Ok-Err-clause-found
returns-in-Ok-Err-clause-found g c =
    let p = c.args.point.now.point in
    revoked _ c.args.ca.now p c.args.cert c.in-Ok-Err.test (rw c.in-Ok-Err.field-0-is at (c.in-Ok-Err.ensures p (sym c.manifest_cert.ensures) (sym c.crl.ensures)))

pub new-requires : goal.new-requires
new-requires g c =
    let r = c.in-Ok.child in
    let cert = c.args.cert in
    let f = rw (c.in-Ok.is, c.verified.ensures.cert) at c.in_ok-child.ensures.found in
    let law = c.addresses_are_whole.ensures in
    law.kept cert.tbs.v4 c.args.ca.now.holder.v4 r.holder.v4 (law.listed c.requires.0 cert c.requires.1) c.verified.ensures.whole (f.holds Ipv4)

pub returns-in-Ok-clause-found : goal.returns-in-Ok-clause-found
returns-in-Ok-clause-found g c =
    let p = c.args.point.now.point in
    let all = rw c.in-Ok-Ok.field-0-is at (c.in-Ok-Ok.ensures p (sym c.manifest_cert.ensures) (sym c.crl.ensures)) in
    below _ c.args.ca.now p c.args.cert all c.in-Ok.child c.new.result c.new.ensures (rw (c.in-Ok.is, c.verified.ensures.cert) at c.in_ok-child.ensures.found)

pub returns-in-Err-2-clause-found : goal.returns-in-Err-2-clause-found
returns-in-Err-2-clause-found g c =
    let p = c.args.point.now.point in
    let all = rw c.in-Ok-Ok.field-0-is at (c.in-Ok-Ok.ensures p (sym c.manifest_cert.ensures) (sym c.crl.ensures)) in
    not_below _ c.args.ca.now p c.args.cert all c.in-Err-2.test (rw (c.in-Err-2.is, c.verified.ensures.cert) at c.in_ok-child.ensures.found)
