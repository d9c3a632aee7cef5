use Rattle.std.proofs.Common.{◌≡◌, Some, [], ◌∷◌}
use Rattle.rpki_standing.specs.certs_key.Digesting.{digests_of}
use Rattle.rpki_rules.specs.PointReasons.{Folder, PassesManifest}
use Rattle.rpki_rules.specs.ReasonViews.{manifest_test_of}
use Rattle.rpki_rules.specs.World.{world_of}
use Rattle.rpki_rules.proofs.FirstParts.{first_behind, first_here}
use Rattle.rpki_rules.proofs.Firsts.{not_none}
use Rattle.rpki_standing.specs.PointFaults.{names_tests}
use Rattle.rpki_standing.proofs.Stocked.{has_files}
use Rattle.rpki_standing.proofs.parts.held_files.Goals as goal

pub returns-in_default-clause-refused : goal.returns-in_default-clause-refused
returns-in_default-clause-refused g c v =
    let w = world_of (digests_of g.D.Digester.sha256_digest g.D.Digester.sha1_digest c.args.digester.now) v c.args.index.now in
    let k = c.args.manifest.now in
    first_here (PassesManifest w c.args.ca.now k.signed k.content) Folder (names_tests k.content) (λ n. n cc)

pub returns-in-Err-clause-refused : goal.returns-in-Err-clause-refused
returns-in-Err-clause-refused g c v =
    let w = world_of (digests_of g.D.Digester.sha256_digest g.D.Digester.sha1_digest c.args.digester.now) v c.args.index.now in
    let k = c.args.manifest.now in
    let named : c.args.ca.now.tbs.access.repository ≡ Some c.in-Some.folder.now = cc in
    first_behind (PassesManifest w c.args.ca.now k.signed k.content) (Folder ∷ []) (names_tests k.content) (manifest_test_of c.in-Err.test) (not_none c.args.ca.now.tbs.access.repository c.in-Some.folder.now named, tt)
    (rw (c.content.ensures, c.in-Err.is) at (c.in_ok-test.ensures v c.args.ca.now k.signed named))

pub returns-clause-held : goal.returns-clause-held
returns-clause-held g c v =
    let w = world_of (digests_of g.D.Digester.sha256_digest g.D.Digester.sha1_digest c.args.digester.now) v c.args.index.now in
    let k = c.args.manifest.now in
    let named : c.args.ca.now.tbs.access.repository ≡ Some c.in-Some.folder.now = cc in
    has_files w c.args.ca.now k.signed k.content c.in-Some.folder.now named (rw (c.content.ensures, c.in_default-2.is) at (c.in_ok-test.ensures v c.args.ca.now k.signed named))
