-- Why no publication point is an authority's, the claim of its manifest's certificate apart (RFC 9286 6, RFC 6487 5).
use Rattle.std.specs.Prelude.{List, [], ◌∷◌, ◌++◌, map, flat_map}
use Rattle.rpki_standing.specs.certs_basics.Lists.{Each, FirstFailing}
use Rattle.rpki_standing.specs.certs_extension.declared.forms.Role.TheVariants.{Ee}
use Rattle.rpki_standing.specs.certs_extension.Verified.{nothing}
use Rattle.rpki_rules.specs.declared.reason.points.PointReason.{PointReason}
use Rattle.rpki_rules.specs.declared.reason.points.PointReason.TheVariants as why
use Rattle.rpki_rules.specs.Certs.{Cert, Crl}
use Rattle.rpki_rules.specs.Objects.{Manifest, Object}
use Rattle.rpki_rules.specs.Points.{Point}
use Rattle.rpki_rules.specs.World.{World}
use Rattle.rpki_rules.specs.Reasons.{cert_tests, content_tests}
use Rattle.rpki_rules.specs.PointReasons.{ManifestTest, ThisUpdate, NextUpdate, ManifestCert, ManifestContent, Folder, NamesDiffer, ListNamed, ListListed, file_tests, PassesManifest, ListTest, ListAuthority, ListThisUpdate, ListNextUpdate, NotOnList, ListSignature, PassesList, HasList, HasGoodManifest, NoManifest, BadManifest, ManifestFails, BadList, PointFails}
use Rattle.rpki_rules.specs.ReasonViews.{list_test_of, manifest_test_of}

-- The tests of a manifest in three parts: that it is current and the authority's own, that its files are there, and that
-- its certificate names a list which is a file.
abbrev pub own_tests : List ManifestTest
own_tests =
    ThisUpdate ∷ NextUpdate
    ∷ (map ManifestCert (cert_tests Ee) ++ map ManifestContent content_tests)

abbrev pub names_tests : Manifest → List ManifestTest
names_tests m = NamesDiffer ∷ flat_map file_tests m.files

abbrev pub held_tests : Manifest → List ManifestTest
held_tests m = Folder ∷ names_tests m

abbrev pub naming_tests : List ManifestTest
naming_tests = ListNamed ∷ ListListed ∷ []

-- The tests of a revocation list: of what it says, and with its signature. None asks what is held.
abbrev pub said_tests : List ListTest
said_tests = ListAuthority ∷ ListThisUpdate ∷ ListNextUpdate ∷ NotOnList ∷ []

abbrev pub unheld_tests : List ListTest
unheld_tests = said_tests ++ ListSignature ∷ []

-- The list passes such a test beside a manifest's object and content, where nothing need be held.
abbrev pub PassesUnheld : World → Cert → Object → Manifest → Crl → ListTest → Type 0
PassesUnheld w ca o m crl =
    PassesList w nothing ca (record { object = o; manifest = m; crl = crl })

-- Of a manifest that is the authority's own and has its files: why it has no revocation list.
abbrev pub FailsList : World → Cert → Object → Manifest → PointReason → Type 0
FailsList w ca o m why.NoManifest = ⊥
FailsList w ca o m why.BadManifest = ⊥
FailsList w ca o m (why.ManifestFails t) =
    FirstFailing (PassesManifest w ca o m) naming_tests (manifest_test_of t)
FailsList w ca o m why.BadList =
    Each (PassesManifest w ca o m) naming_tests × ((crl : Crl) → ¬ (HasList w o crl))
FailsList w ca o m (why.ListFails t) =
    (crl : Crl) × Each (PassesManifest w ca o m) naming_tests × HasList w o crl
    × FirstFailing (PassesUnheld w ca o m crl) unheld_tests (list_test_of t)

-- Why the authority has no point, whatever is held: all before holds, and this doesn't.
abbrev pub FailsUnheld : World → Cert → PointReason → Type 0
FailsUnheld w ca why.NoManifest = PointFails w nothing ca NoManifest
FailsUnheld w ca why.BadManifest = PointFails w nothing ca BadManifest
FailsUnheld w ca (why.ManifestFails t) =
    PointFails w nothing ca (ManifestFails (manifest_test_of t))
FailsUnheld w ca why.BadList = PointFails w nothing ca BadList
FailsUnheld w ca (why.ListFails t) =
    (p : Point) × HasGoodManifest w ca p.object p.manifest × HasList w p.object p.crl
    × FirstFailing (PassesList w nothing ca p) unheld_tests (list_test_of t)
