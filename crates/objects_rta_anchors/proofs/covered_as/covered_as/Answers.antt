use Rattle.objects_rta_valid.specs.certs_extension.Kinds.{As}
use Rattle.objects_rta_anchors.proofs.Covering.{covered_told, covers_at, grounded_at}
use Rattle.objects_rta_anchors.proofs.covered_as.covered_as.Goals as goal

pub returns : goal.returns
returns c =
    let a = c.args.anchored.now in
    let grounded =
    grounded_at a.certs.now a.paths.now.paths a.ends.now a.anchors.now c.args.signer c.path-path.result c.end_at-last.result c.anchor_at-anchor.result
    c.requires.kept c.path-path.ensures.path c.end_at-last.ensures c.anchor_at-anchor.ensures in
    covers_at a.certs.now a.issuers.now As a.paths.now.paths a.anchors.now c.args.signer c.path-path.result c.anchor_at-anchor.result c.in_ok-kept.kept
    c.path-path.ensures.path c.anchor_at-anchor.ensures
    (covered_told a.certs.now a.issuers.now As c.path-path.result c.end_at-last.result c.anchor_at-anchor.result c.in_ok-held.held c.in_ok-kept.kept grounded c.in_ok-held.ensures c.in_ok-kept.ensures)
