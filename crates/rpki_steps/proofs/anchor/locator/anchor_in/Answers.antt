use Rattle.rpki_standing.specs.Readers.{world_by}
use Rattle.rpki_steps.proofs.AnchorLemmas.{anchor_fails, anchor_read}
use Rattle.rpki_steps.proofs.anchor.locator.anchor_in.Goals as goal

pub returns-in_default-clause-found : goal.returns-in_default-clause-found
returns-in_default-clause-found g c = rw c.in_default.is at c.in_ok-cert.ensures

pub returns-in-Ok-clause-found : goal.returns-in-Ok-clause-found
returns-in-Ok-clause-found g c =
    anchor_read _ c.args.key.now c.args.name.value c.args.octets.now c.in-Some.cert (rw c.in-Some.is at c.in_ok-cert.ensures) c.in-Ok.anchor (rw c.in-Ok.is at c.in_ok-anchor.ensures.found)

pub returns-in-Err-clause-found : goal.returns-in-Err-clause-found
returns-in-Err-clause-found g c =
    let w = world_by g.D.Digester.sha256_digest g.D.Digester.sha1_digest g.V.Verifier.says c.args.reader.now in
    anchor_fails w c.args.key.now c.args.name.value c.args.octets.now c.in-Some.cert (rw c.in-Some.is at c.in_ok-cert.ensures) c.in-Err.test (rw c.in-Err.is at c.in_ok-anchor.ensures.found)
