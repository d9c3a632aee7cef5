use Rattle.std.proofs.Common.{subst, sym}
use Rattle.certs_cert.specs.certs_key.Digesting.{digests_of}
use Rattle.rpki_rules.specs.Objects.{File}
use Rattle.rpki_rules.specs.PointReasons.{PassesManifest, file_tests}
use Rattle.rpki_rules.specs.ReasonViews.{manifest_test_of}
use Rattle.rpki_rules.specs.World.{world_of}
use Rattle.rpki_rules.specs.certs_basics.Lists.{Each}
use Rattle.rpki_rules.proofs.Firsts.{each_also, flat_each}
use Rattle.rpki_standing.proofs.PassedTo.{PassedTo, failed_next, passed_all, passed_more, passed_none}
use Rattle.rpki_standing.proofs.Stocked.{IsThere}
use Rattle.rpki_standing.proofs.points.files.check_each.Goals as goal

pub loop-file-init : goal.loop-file-init
loop-file-init g c =
    let there = IsThere (digests_of g.D.Digester.sha256_digest g.D.Digester.sha1_digest c.args.digester.now) c.args.index.now c.args.folder.now in
    subst (PassedTo there c.args.manifest.now.files) (sym c.iter-left.ensures) (passed_none there c.args.manifest.now.files)

pub returns-in-Err : goal.returns-in-Err
returns-in-Err g c v ca o m is =
    let d = digests_of g.D.Digester.sha256_digest g.D.Digester.sha1_digest c.args.digester.now in
    failed_next file_tests (IsThere d c.args.index.now c.args.folder.now) (PassesManifest (world_of d v c.args.index.now) ca o m) c.args.manifest.now.files c.loop-file.left _ c.in-Some.file (manifest_test_of c.in-Err.test)
    (λ f t. t v ca o m is) c.in-Some.ensures.steps c.loop-file.invariant (rw c.in-Err.is at (c.in_ok-test.ensures v ca o m is))

pub loop-file-preserved : goal.loop-file-preserved
loop-file-preserved g c =
    let there = IsThere (digests_of g.D.Digester.sha256_digest g.D.Digester.sha1_digest c.args.digester.now) c.args.index.now c.args.folder.now in
    passed_more there c.args.manifest.now.files c.loop-file.left _ c.in-Some.file c.in-Some.ensures.steps (λ v ca o m is. rw c.in_default-2.is at (c.in_ok-test.ensures v ca o m is)) c.loop-file.invariant

pub returns : goal.returns
returns g c v ca o m is =
    let d = digests_of g.D.Digester.sha256_digest g.D.Digester.sha1_digest c.args.digester.now in
    let there = IsThere d c.args.index.now c.args.folder.now in
    let P = PassesManifest (world_of d v c.args.index.now) ca o m in
    flat_each file_tests P c.args.manifest.now.files
    (each_also there (λ (f : File). Each P (file_tests f)) c.args.manifest.now.files (λ f t. t v ca o m is) (passed_all there c.args.manifest.now.files c.loop-file.left c.in_default.ensures.steps.0 c.loop-file.invariant))
