use Rattle.rpki_standing.specs.Readers.{world_by}
use Rattle.rpki_standing.proofs.OwnManifests.{own_fails, own_of, unread_fails}
use Rattle.rpki_standing.proofs.manifests.find_manifest.Goals as goal

pub returns-in-Err-clause-refused : goal.returns-in-Err-clause-refused
returns-in-Err-clause-refused g c =
    let w = world_by g.D.Digester.sha256_digest g.D.Digester.sha1_digest g.V.Verifier.says c.args.reader.now in
    unread_fails w c.args.ca.now c.in-Err.reason (rw c.in-Err.is at (c.in_ok-manifest.ensures w.digests w.good))

pub returns-in-Ok-Ok-clause-found : goal.returns-in-Ok-Ok-clause-found
returns-in-Ok-Ok-clause-found g c =
    let w = world_by g.D.Digester.sha256_digest g.D.Digester.sha1_digest g.V.Verifier.says c.args.reader.now in
    own_of w c.args.ca.now c.in-Ok.manifest (rw c.in-Ok.is at (c.in_ok-manifest.ensures w.digests w.good)) (rw c.in-Ok-Ok.field-0-is at c.in-Ok-Ok.ensures.told)

pub returns-in-Ok-Err-clause-refused : goal.returns-in-Ok-Err-clause-refused
returns-in-Ok-Err-clause-refused g c =
    let w = world_by g.D.Digester.sha256_digest g.D.Digester.sha1_digest g.V.Verifier.says c.args.reader.now in
    own_fails w c.args.ca.now c.in-Ok.manifest c.in-Ok-Err.test (rw c.in-Ok.is at (c.in_ok-manifest.ensures w.digests w.good)) (rw c.in-Ok-Err.field-0-is at c.in-Ok-Err.ensures.told)
