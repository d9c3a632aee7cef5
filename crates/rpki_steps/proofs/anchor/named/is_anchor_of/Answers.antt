use Rattle.rpki_standing.specs.Readers.{world_by}
use Rattle.rpki_steps.proofs.Named.{anchor_by, no_anchor}
use Rattle.rpki_steps.proofs.Passing.{never}
use Rattle.rpki_steps.proofs.anchor.named.is_anchor_of.Goals as goal

pub returns-in_default-clause-anchor : goal.returns-in_default-clause-anchor
returns-in_default-clause-anchor g c =
    let w = world_by g.D.Digester.sha256_digest g.D.Digester.sha1_digest g.V.Verifier.says c.args.reader.now in
    let l = c.args.locator.now in
    never (no_anchor w l c.in_ok-object.field-0 c.in_default.not-Held (c.in_ok-object.ensures.lead w.digests w.good) (c.no_lead.ensures.unreadable w l) (c.no_lead.ensures.nowhere w l) (record { uri = c.args.uri.now; cert = c.args.cert.now }))

pub returns-clause-anchor : goal.returns-clause-anchor
returns-clause-anchor g c =
    let w = world_by g.D.Digester.sha256_digest g.D.Digester.sha1_digest g.V.Verifier.says c.args.reader.now in
    let l = c.args.locator.now in
    let leads = rw (c.in-Held.is, ← c.key_info.ensures) at (c.in_ok-object.ensures.lead w.digests w.good) in
    anchor_by w l _ _ _ c.args.uri.now c.args.cert.now c.is_anchor_there-is.result leads c.requires (c.one_lead.ensures.key w l) (c.one_lead.ensures.uri w l) c.is_anchor_there-is.ensures.anchor
