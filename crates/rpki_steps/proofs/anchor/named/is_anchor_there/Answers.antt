use Rattle.std.proofs.Common.{◌≡◌, rules}
use Rattle.rpki_rules.specs.LocatorReasons.{PassesAnchor, tests_of_anchors}
use Rattle.rpki_rules.specs.World.{World}
use Rattle.rpki_standing.specs.Readers.{world_by}
use Rattle.rpki_steps.proofs.Passing.{told_ok}
use Rattle.rpki_steps.proofs.anchor.named.is_anchor_there.Goals as goal

pub returns-then-eq-clause-anchor : goal.returns-then-eq-clause-anchor
returns-then-eq-clause-anchor g c =
    let w : World = world_by g.D.Digester.sha256_digest g.D.Digester.sha1_digest g.V.Verifier.says c.args.reader.now in
    let same : c.args.object.now.uri ≡ c.args.uri.now = search rules in
    let law = c.anchor_tests_are_rules.ensures w c.args.key.now c.args.cert.now in
    let told = told_ok (PassesAnchor w c.args.key.now c.args.cert.now) tests_of_anchors c.check_anchor_cert.result c.is_ok.result c.is_ok.ensures.value c.check_anchor_cert.ensures.told in (
      λ t. (same, law.0 (told.0 t)),
      λ x. told.1 (law.1 x.1),
    )
