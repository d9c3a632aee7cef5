use Rattle.rpki_standing.specs.Readers.{world_by}
use Rattle.rpki_standing.proofs.OwnManifests.{all_pass, cert_fails, content_fails, updates_fail}
use Rattle.rpki_standing.proofs.manifests.check_own.Goals as goal

pub returns-in-Err-clause-told : goal.returns-in-Err-clause-told
returns-in-Err-clause-told g c =
    let w = world_by g.D.Digester.sha256_digest g.D.Digester.sha1_digest g.V.Verifier.says c.args.reader.now in
    updates_fail w c.args.ca.now c.args.manifest.now c.in-Err.test (c.in-Err.ensures w.digests w.good c.args.ca.now)

pub returns-in-Err-check_object_cert-clause-told : goal.returns-in-Err-check_object_cert-clause-told
returns-in-Err-check_object_cert-clause-told g c =
    let w = world_by g.D.Digester.sha256_digest g.D.Digester.sha1_digest g.V.Verifier.says c.args.reader.now in
    let updates = c.in_default.ensures w.digests w.good c.args.ca.now in
    cert_fails w c.args.ca.now c.args.manifest.now updates c.in-Err-check_object_cert.test (rw c.cert.ensures at c.in-Err-check_object_cert.ensures.told)

pub returns-in-Ok-clause-told : goal.returns-in-Ok-clause-told
returns-in-Ok-clause-told g c =
    let w = world_by g.D.Digester.sha256_digest g.D.Digester.sha1_digest g.V.Verifier.says c.args.reader.now in
    let updates = c.in_default.ensures w.digests w.good c.args.ca.now in
    let cert = rw c.cert.ensures at c.in_default-check_object_cert.ensures.told in
    let same = c.check_object_cert.ensures.same in
    all_pass w c.args.ca.now c.args.manifest.now updates cert (rw (same.digester, same.verdicts, c.signed.ensures, c.in-Ok.is) at (c.in_ok-check_content.ensures.told c.args.reader.now.index))

pub returns-in-Err-2-clause-told : goal.returns-in-Err-2-clause-told
returns-in-Err-2-clause-told g c =
    let w = world_by g.D.Digester.sha256_digest g.D.Digester.sha1_digest g.V.Verifier.says c.args.reader.now in
    let updates = c.in_default.ensures w.digests w.good c.args.ca.now in
    let cert = rw c.cert.ensures at c.in_default-check_object_cert.ensures.told in
    let same = c.check_object_cert.ensures.same in
    content_fails w c.args.ca.now c.args.manifest.now updates cert c.in-Err-2.test (rw (same.digester, same.verdicts, c.signed.ensures, c.in-Err-2.is) at (c.in_ok-check_content.ensures.told c.args.reader.now.index))
