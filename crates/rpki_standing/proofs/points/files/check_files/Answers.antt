use Rattle.std.proofs.Common.{Result, flat_map}
use Rattle.certs_cert.specs.certs_key.Digesting.{digests_of}
use Rattle.rpki_rules.specs.Certs.{Cert, Verdicts}
use Rattle.rpki_rules.specs.Objects.{Manifest, Object}
use Rattle.rpki_rules.specs.PointReasons.{IsFolder, NamesDiffer, PassesManifest, file_tests}
use Rattle.rpki_rules.specs.ReasonViews.{manifest_test_of}
use Rattle.rpki_rules.specs.World.{World, world_of}
use Rattle.rpki_rules.specs.declared.reason.points.ManifestTest.{ManifestTest}
use Rattle.rpki_rules.proofs.FirstParts.{first_here}
use Rattle.rpki_standing.specs.Tests.{Tells}
use Rattle.rpki_standing.proofs.Failing.{if_ok}
use Rattle.rpki_standing.proofs.PassedTo.{told_behind}
use Rattle.rpki_standing.proofs.points.files.check_files.Goals as goal

pub returns-then-not-branch : goal.returns-then-not-branch
returns-then-not-branch g c v ca o is =
    first_here (PassesManifest (world_of (digests_of g.D.Digester.sha256_digest g.D.Digester.sha1_digest c.args.digester.now) v c.args.index.now) ca o c.args.manifest.now) NamesDiffer (flat_map file_tests c.args.manifest.now.files)
    (λ n. let yes = c.in_ok-differ_by_name.ensures.1 n in let no = c.if-not-branch.true in absurd cc)

pub returns : goal.returns
returns g c =
    let w : Verdicts → World = λ v. world_of (digests_of g.D.Digester.sha256_digest g.D.Digester.sha1_digest c.args.digester.now) v c.args.index.now in
    let m = c.args.manifest.now in
    let each : Result (Unit {0}) ManifestTest → Type 0 = λ told. (v : Verdicts) (ca : Cert) (o : Object) (n : Manifest) → IsFolder ca c.args.folder.now → Tells manifest_test_of (PassesManifest (w v) ca o n) (flat_map file_tests m.files) told in
    if_ok each _ c.check_each.result (λ told h v ca o is. told_behind manifest_test_of (PassesManifest (w v) ca o m) NamesDiffer (flat_map file_tests m.files) told (c.in_ok-differ_by_name.ensures.0 c.if-not-branch.false) (h v ca o m is)) c.check_each.ensures
