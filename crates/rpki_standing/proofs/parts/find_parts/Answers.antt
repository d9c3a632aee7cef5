use Rattle.rpki_standing.specs.Readers.{world_by}
use Rattle.rpki_standing.proofs.Standings.{held_fails, list_fails}
use Rattle.rpki_standing.proofs.parts.find_parts.Goals as goal

pub returns-in-Err-clause-refused : goal.returns-in-Err-clause-refused
returns-in-Err-clause-refused g c own =
    let w = world_by g.D.Digester.sha256_digest g.D.Digester.sha1_digest g.V.Verifier.says c.args.reader.now in
    held_fails w c.args.ca.now c.args.manifest.now own c.in-Err.test ((rw c.in-Err.is at c.in_ok-keys.ensures.refused) w.good)

pub returns-in-Err-2-clause-refused : goal.returns-in-Err-2-clause-refused
returns-in-Err-2-clause-refused g c own =
    let w = world_by g.D.Digester.sha256_digest g.D.Digester.sha1_digest g.V.Verifier.says c.args.reader.now in
    list_fails w c.args.ca.now c.args.manifest.now own ((rw c.in-Ok.is at c.in_ok-keys.ensures.held) w.good) c.in-Err-2.reason ((rw c.in-Err-2.is at c.in_ok-crl.ensures.refused) w.digests)
