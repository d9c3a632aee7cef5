-- An authority has one point at most: by its manifest, the files that it lists, and the revocation list. Else it has a reason.
use Rattle.std.proofs.Common.{ℕ, List, ◌++◌, map, subst}
use Rattle.std.specs.Prelude.{◌↔◌}
use Rattle.objects_valid.specs.Kinds.{KindValue}
use Rattle.rpki_standing.specs.certs_basics.Lists.{Each, FirstFailing}
use Rattle.rpki_standing.specs.certs_basics.Uris.{lookup_key}
use Rattle.rpki_standing.specs.certs_extension.Verified.{nothing}
use Rattle.rpki_standing.specs.resources_chain.Claims.{Choice, FitsIn}
use Rattle.rpki_standing.specs.resources_chain.declared.claims.Overclaim.{Overclaim}
use Rattle.rpki_standing.specs.resources_chain.declared.claims.Overclaim.TheVariants.{Refuse, Trim}
use Rattle.rpki_rules.specs.declared.reason.points.ManifestTest.{ManifestTest as ToldManifest}
use Rattle.rpki_rules.specs.declared.reason.points.PointReason.{PointReason}
use Rattle.rpki_rules.specs.declared.reason.points.PointReason.TheVariants as why
use Rattle.rpki_rules.specs.Certs.{Cert, Crl}
use Rattle.rpki_rules.specs.Kinds.{Kind, claim}
use Rattle.rpki_rules.specs.Objects.{File, Manifest, Object}
use Rattle.rpki_rules.specs.Points.{HasFiles, IsCrlOf, IsHeld, IsPoint, Point, files}
use Rattle.rpki_rules.specs.Words.{Mem}
use Rattle.rpki_rules.specs.World.{World}
use Rattle.rpki_rules.specs.PointReasons.{ManifestTest, HasGoodManifest, HasList, ListTest, ManifestClaim, PassesList, PassesManifest, PointFails, file_tests}
use Rattle.rpki_rules.specs.Reasons.{kinds}
use Rattle.rpki_rules.specs.ReasonViews.{list_test_of, manifest_test_of, point_reason_of}
use Rattle.rpki_rules.proofs.FirstParts.{first_behind, first_in_front}
use Rattle.rpki_rules.proofs.Firsts.{each_also, each_join, flat_each, none_fails, not_none}
use Rattle.rpki_rules.proofs.PointReasons.{file_passes, one_list, refutes}
use Rattle.rpki_standing.specs.Manifests.{IsOwnManifest}
use Rattle.rpki_standing.specs.PointFaults.{FailsList, FailsUnheld, PassesUnheld, held_tests, naming_tests, own_tests, unheld_tests}
use Rattle.rpki_standing.proofs.Failing.{one_value}
use Rattle.rpki_standing.proofs.PassedTo.{first_alike}
use Rattle.rpki_standing.proofs.OwnManifests.{own_has, own_passes, whole_tests}

module _ (w : World) (ca : Cert) where
  -- A manifest that has its files passes the tests of them.
  pub held_passes : (o : Object) (m : Manifest) → HasFiles w ca m → Each (PassesManifest w ca o m) (held_tests m)
  held_passes o m h = (
    not_none ca.tbs.access.repository h.folder h.folder_is,
    (
      h.distinct,
      flat_each file_tests (PassesManifest w ca o m) m.files
          (each_also (IsHeld w h.folder) (λ (f : File). Each (PassesManifest w ca o m) (file_tests f)) m.files (file_passes w ca o m h.folder h.folder_is) h.each),
    ),
  )

  -- What a manifest's list passes.
  has_list : (o : Object) (m : Manifest) (crl : Crl) → IsCrlOf w ca o m crl → HasList w o crl
  has_list o m crl l = record { uri = l.uri; uri_is = l.uri_is; octets = l.octets; held = l.held; reads = l.reads }

  naming_passes : (o : Object) (m : Manifest) (crl : Crl) → IsCrlOf w ca o m crl → Each (PassesManifest w ca o m) naming_tests
  naming_passes o m crl l = (
    not_none o.cert.tbs.crl_uri l.uri l.uri_is,
    (λ uri e. subst (λ (u : List ℕ). Mem (files ca m) (lookup_key u)) (one_value l.uri uri o.cert.tbs.crl_uri l.uri_is e) l.listed, tt),
  )

  list_passes : (o : Object) (m : Manifest) (crl : Crl) → IsCrlOf w ca o m crl → Each (PassesUnheld w ca o m crl) unheld_tests
  list_passes o m crl l = (l.authority, (l.current.0, (l.current.1, (l.not_revoked, (l.good, tt)))))

  -- So one that fails has none.
  pub unlisted : (o : Object) (m : Manifest) (r : PointReason) → FailsList w ca o m r → (crl : Crl) → ¬ (IsCrlOf w ca o m crl)
  unlisted o m why.NoManifest f crl l = f
  unlisted o m why.BadManifest f crl l = f
  unlisted o m (why.ManifestFails t) f crl l = none_fails (PassesManifest w ca o m) naming_tests (manifest_test_of t) (naming_passes o m crl l) f
  unlisted o m why.BadList f crl l = f.1 crl (has_list o m crl l)
  unlisted o m (why.ListFails t) f crl l =
      let same = one_list w ca o crl f.0 (has_list o m crl l) f.2 in
      none_fails (PassesUnheld w ca o m f.0) unheld_tests (list_test_of t) (subst (λ (x : Crl). Each (PassesUnheld w ca o m x) unheld_tests) same (list_passes o m crl l)) f.3

  module _ (k : KindValue Manifest) (own : IsOwnManifest w ca k) where
    abbrev Passed : ManifestTest → Type 0
    Passed t = PassesManifest w ca k.signed k.content t

    -- Why a manifest that is the authority's own has no files.
    pub held_fails : (t : ToldManifest) → FirstFailing (PassesManifest w ca k.signed k.content) (held_tests k.content) (manifest_test_of t) → FailsUnheld w ca (why.ManifestFails t)
    held_fails t f = (
      k.signed,
      k.content,
      own_has w ca k own,
      subst (λ (ts : List ManifestTest). FirstFailing Passed ts (manifest_test_of t)) (whole_tests k.content)
          (first_behind Passed own_tests (held_tests k.content ++ naming_tests) (manifest_test_of t) (own_passes w ca k own) (first_in_front Passed (held_tests k.content) naming_tests (manifest_test_of t) f)),
    )

    -- Why one that has its files has no list.
    module _ (files : HasFiles w ca k.content) where
      good : Each (PassesManifest w ca k.signed k.content) naming_tests → HasGoodManifest w ca k.signed k.content
      good n = record {
        has = own_has w ca k own;
        passes = subst (Each Passed) (whole_tests k.content)
            (each_join Passed own_tests (held_tests k.content ++ naming_tests) (own_passes w ca k own) (each_join Passed (held_tests k.content) naming_tests (held_passes k.signed k.content files) n));
      }

      pub list_fails : (r : PointReason) → FailsList w ca k.signed k.content r → FailsUnheld w ca r
      list_fails why.NoManifest f = absurd f
      list_fails why.BadManifest f = absurd f
      list_fails (why.ManifestFails t) f = (
        k.signed,
        k.content,
        own_has w ca k own,
        subst (λ (ts : List ManifestTest). FirstFailing Passed ts (manifest_test_of t)) (whole_tests k.content)
            (first_behind Passed own_tests (held_tests k.content ++ naming_tests) (manifest_test_of t) (own_passes w ca k own)
            (first_behind Passed (held_tests k.content) naming_tests (manifest_test_of t) (held_passes k.signed k.content files) f)),
      )
      list_fails why.BadList f = (k.signed, k.content, good f.0, f.1)
      list_fails (why.ListFails t) f = (record { object = k.signed; manifest = k.content; crl = f.0 }, good f.1, f.2, f.3)

  -- Such a reason is one by whatever is held.
  module _ (held : Kind → ℕ → Type 0) where
    alike : (p : Point) → Each (λ (t : ListTest). PassesList w nothing ca p t ↔ PassesList w held ca p t) unheld_tests
    alike p = ((λ x. x, λ x. x), ((λ x. x, λ x. x), ((λ x. x, λ x. x), ((λ x. x, λ x. x), ((λ x. x, λ x. x), tt)))))

    pub unheld_fails : (r : PointReason) → FailsUnheld w ca r → PointFails w held ca (point_reason_of r)
    unheld_fails why.NoManifest f = f
    unheld_fails why.BadManifest f = f
    unheld_fails (why.ManifestFails t) f = f
    unheld_fails why.BadList f = f
    unheld_fails (why.ListFails t) f = (
      f.0,
      f.1,
      f.2,
      first_in_front (PassesList w held ca f.0) unheld_tests (map ManifestClaim kinds) (list_test_of t) (first_alike (PassesList w nothing ca f.0) (PassesList w held ca f.0) unheld_tests (list_test_of t) (alike f.0) f.3),
    )

  -- So no point stands there, even where all is held.
  all_fits : (mode : Overclaim) (choice : Choice) → FitsIn mode choice (λ n. Unit {0})
  all_fits Refuse choice = λ n l. tt
  all_fits Trim choice = tt

  pub unheld_refutes : (r : PointReason) → FailsUnheld w ca r → (p : Point) → ¬ (IsPoint w ca p)
  unheld_refutes r f p is =
      let held : Kind → ℕ → Type 0 = λ k n. Unit {0} in
      refutes w ca held (point_reason_of r) (unheld_fails held r f) p (record { point = is; fits = λ k. all_fits p.object.cert.tbs.overclaim (claim p.object.cert k) })
