use Rattle.rpki_standing.specs.Readers.{world_by}
use Rattle.rpki_steps.proofs.CertFiles.{child, no_authority, no_cert, no_child}
use Rattle.rpki_steps.proofs.FileLemmas.{is_true, isnt_true}
use Rattle.rpki_steps.proofs.issued.file.judged_cert_file.Goals as goal

pub returns-in_default-clause-judged : goal.returns-in_default-clause-judged
returns-in_default-clause-judged g c =
    let w = world_by g.D.Digester.sha256_digest g.D.Digester.sha1_digest g.V.Verifier.says c.args.reader.now in
    λ h. no_cert w c.args.ca.now c.args.point.now.point c.args.uri.now h (rw c.in_default.is at (c.in_ok-cert.ensures.cert w.digests w.good))

pub returns-then-ne-clause-judged : goal.returns-then-ne-clause-judged
returns-then-ne-clause-judged g c =
    let w = world_by g.D.Digester.sha256_digest g.D.Digester.sha1_digest g.V.Verifier.says c.args.reader.now in
    λ h. no_authority w c.args.ca.now c.args.point.now.point c.args.uri.now c.in-Some.cert h (rw c.in-Some.is at (c.in_ok-cert.ensures.cert w.digests w.good)) (isnt_true c.ne.result c.in-Some.cert.tbs.basic_ca (rw (c.basic_ca.ensures, c.tbs.ensures) at c.ne.ensures) c.if-ne.true)

pub child_at-requires : goal.child_at-requires
child_at-requires g c =
    let w = world_by g.D.Digester.sha256_digest g.D.Digester.sha1_digest g.V.Verifier.says c.args.reader.now in
    let t = rw c.in-Some.is at (c.in_ok-cert.ensures.cert w.digests w.good) in
    (t.octets, t.reads)

pub returns-in-Ok-clause-judged : goal.returns-in-Ok-clause-judged
returns-in-Ok-clause-judged g c =
    let w = world_by g.D.Digester.sha256_digest g.D.Digester.sha1_digest g.V.Verifier.says c.args.reader.now in
    λ h. child w c.args.ca.now c.args.point.now.point c.args.uri.now c.in-Some.cert c.in-Ok.child h (rw c.in-Some.is at (c.in_ok-cert.ensures.cert w.digests w.good)) (rw c.in-Ok.is at c.in_ok-child.ensures.found)

pub returns-in-Err-clause-judged : goal.returns-in-Err-clause-judged
returns-in-Err-clause-judged g c =
    let w = world_by g.D.Digester.sha256_digest g.D.Digester.sha1_digest g.V.Verifier.says c.args.reader.now in
    λ h. no_child w c.args.ca.now c.args.point.now.point c.args.uri.now c.in-Some.cert c.in-Err.test h (rw c.in-Some.is at (c.in_ok-cert.ensures.cert w.digests w.good)) (is_true c.ne.result c.in-Some.cert.tbs.basic_ca (rw (c.basic_ca.ensures, c.tbs.ensures) at c.ne.ensures) c.if-ne.false)
    (rw c.in-Err.is at c.in_ok-child.ensures.found)
