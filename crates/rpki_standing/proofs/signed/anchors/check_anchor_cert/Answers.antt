use Rattle.rpki_standing.specs.Readers.{world_by}
use Rattle.rpki_standing.proofs.AnchorTests.{anchor_told, other_key}
use Rattle.rpki_standing.proofs.signed.anchors.check_anchor_cert.Goals as goal

pub returns-then-not-has_key-clause-told : goal.returns-then-not-has_key-clause-told
returns-then-not-has_key-clause-told g c =
    let w = world_by g.D.Digester.sha256_digest g.D.Digester.sha1_digest g.V.Verifier.says c.args.reader.now in
    other_key w c.args.cert.now c.args.key.now (λ k. let t = c.has_key.ensures.1 k in let f = c.if-not-has_key.true in absurd cc)

pub returns-clause-told : goal.returns-clause-told
returns-clause-told g c =
    let w = world_by g.D.Digester.sha256_digest g.D.Digester.sha1_digest g.V.Verifier.says c.args.reader.now in
    anchor_told w c.args.cert.now c.args.key.now c.check_own_cert.result c.map_err.result (c.has_key.ensures.0 c.if-not-has_key.false) c.check_own_cert.ensures.told c.map_err.ensures.cases
