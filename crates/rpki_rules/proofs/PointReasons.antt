-- An accepted chain's point that doesn't stand has a reason, and one.
use Rattle.std.proofs.Common.{◌≡◌, ◌≢◌, ◌≤◌, ℕ, None, Some, List, [], ◌∷◌, ◌++◌, map, flat_map, refl, sym, ap, subst}
use Rattle.rpki_rules.specs.certs_basics.Lists.{Each, FirstFailing}
use Rattle.rpki_rules.specs.certs_basics.Uris.{lookup_key}
use Rattle.rpki_rules.specs.certs_basics.Paths.{join}
use Rattle.rpki_rules.specs.certs_extension.declared.forms.Role.TheVariants.{Ee}
use Rattle.rpki_rules.specs.Certs.{Cert, Crl, CrlText, one_crl}
use Rattle.rpki_rules.specs.Objects.{Object, File, Manifest, ManifestText, one_manifest}
use Rattle.rpki_rules.specs.Words.{Mem, NoRepeat}
use Rattle.rpki_rules.specs.Kinds.{Kind}
use Rattle.rpki_rules.specs.World.{World, at}
use Rattle.rpki_rules.specs.Points.{Point, files, IsHeld, IsManifestOf, HasFiles, IsCrlOf}
use Rattle.rpki_rules.specs.Chains.{last_of, Holds, StandsIn}
use Rattle.rpki_rules.specs.Reasons.{cert_tests, PassesCert, content_tests, PassesContent, kinds}
use Rattle.rpki_rules.specs.PointReasons.{ManifestTest, ManifestCert, ManifestContent, Folder, NamesDiffer, ListNamed, ListListed, file_tests, manifest_tests, IsFolder, PassesManifest, ListTest, ManifestClaim, list_tests, PassesList, HasOctets, HasManifest, HasList, HasGoodManifest, PointReason, NoManifest, BadManifest, ManifestFails, BadList, ListFails, PointFails}
use Rattle.rpki_rules.specs.ReasonLaws.{PointsHaveReasons}
use Rattle.rpki_rules.proofs.Readings.{one_octets}
use Rattle.rpki_rules.proofs.Firsts.{none_fails, one_fails, some_fails, each_split, each_join, each_map, map_each, each_flat, flat_each, each_also, some_of, not_none, same_some}
use Rattle.rpki_rules.proofs.ReasonTests.{cert_passes, passes_cert, content_passes, passes_content, kinds_fit, fit_kinds}

-- A manifest's tests, in parts.
pub record Parts (w : World) (ca : Cert) (o : Object) (m : Manifest) : Type 0 where
  pub this : m.this_update ≤ w.moment
  pub next : w.moment ≤ m.next_update
  pub cert : Each (PassesCert w Ee ca o.cert) (cert_tests Ee)
  pub content : Each (PassesContent w o) content_tests
  pub folder : ca.tbs.access.repository ≢ None
  pub names : NoRepeat (map (λ f. f.name) m.files)
  pub each : Each (λ f. Each (PassesManifest w ca o m) (file_tests f)) m.files
  pub named : o.cert.tbs.crl_uri ≢ None
  pub listed : (uri : List ℕ) → o.cert.tbs.crl_uri ≡ Some uri → Mem (files ca m) (lookup_key uri)

module _ (w : World) (ca : Cert) where
  -- One reading

  one_has : (a b : List ℕ) → HasOctets w ca a → HasOctets w ca b → a ≡ b
  one_has a b h k =
      let u = same_some ca.tbs.access.manifest h.uri k.uri h.uri_is k.uri_is in
      one_octets w (lookup_key k.uri) a b (subst (λ (v : List ℕ). at w v ≡ Some a) u h.held) k.held

  pub same_manifest : (o o' : Object) (m m' : Manifest) → HasManifest w ca o m → HasManifest w ca o' m' → (o ≡ o') × (m ≡ m')
  same_manifest o o' m m' h k =
      one_manifest w.strict k.octets o o' m m' (subst (λ (t : List ℕ). ManifestText w.strict t o m) (one_has h.octets k.octets h.has k.has) h.reads) k.reads

  pub one_list : (o : Object) (crl crl' : Crl) → HasList w o crl → HasList w o crl' → crl ≡ crl'
  one_list o crl crl' h k =
      let u = same_some o.cert.tbs.crl_uri h.uri k.uri h.uri_is k.uri_is in
      let e = one_octets w (lookup_key k.uri) h.octets k.octets (subst (λ (v : List ℕ). at w v ≡ Some h.octets) u h.held) k.held in
      one_crl k.octets crl crl' (subst (λ (t : List ℕ). CrlText t crl) e h.reads) k.reads

  -- What is said of one manifest and its content is said of another that stands there.
  moved : (P : Object → Manifest → Type 0) (o o' : Object) (m m' : Manifest) → HasManifest w ca o m → HasManifest w ca o' m' → P o m → P o' m'
  moved P o o' m m' h k x =
      let e = same_manifest o o' m m' h k in
      subst (λ (y : Manifest). P o' y) e.1 (subst (λ (y : Object). P y m) e.0 x)

  pub parts_of : (o : Object) (m : Manifest) → Each (PassesManifest w ca o m) (manifest_tests m) → Parts w ca o m
  parts_of o m all =
      let P : ManifestTest → Type 0 = PassesManifest w ca o m in
      let last : List ManifestTest = ListNamed ∷ ListListed ∷ [] in
      let late : List ManifestTest = Folder ∷ NamesDiffer ∷ (flat_map file_tests m.files ++ last) in
      let a = each_split P (map ManifestCert (cert_tests Ee)) (map ManifestContent content_tests ++ late) all.1.1 in
      let b = each_split P (map ManifestContent content_tests) late a.1 in
      let d = each_split P (flat_map file_tests m.files) last b.1.1.1 in
      record {
        this = all.0;
        next = all.1.0;
        cert = each_map ManifestCert P (cert_tests Ee) a.0;
        content = each_map ManifestContent P content_tests b.0;
        folder = b.1.0;
        names = b.1.1.0;
        each = each_flat file_tests P m.files d.0;
        named = d.1.0;
        listed = d.1.1.0;
      }

  pub whole_of : (o : Object) (m : Manifest) → Parts w ca o m → Each (PassesManifest w ca o m) (manifest_tests m)
  whole_of o m p =
      let P : ManifestTest → Type 0 = PassesManifest w ca o m in
      let last : List ManifestTest = ListNamed ∷ ListListed ∷ [] in
      let late : List ManifestTest = Folder ∷ NamesDiffer ∷ (flat_map file_tests m.files ++ last) in
      let ends : Each P last = (p.named, (p.listed, tt)) in
      let lates : Each P late = (p.folder, (p.names, each_join P (flat_map file_tests m.files) last (flat_each file_tests P m.files p.each) ends)) in (
        p.this,
        (
          p.next,
          each_join P (map ManifestCert (cert_tests Ee)) (map ManifestContent content_tests ++ late) (map_each ManifestCert P (cert_tests Ee) p.cert)
              (each_join P (map ManifestContent content_tests) late (map_each ManifestContent P content_tests p.content) lates),
        ),
      )

  -- A manifest that passes its tests is the authority's, and has its files.
  pub manifest_of : (o : Object) (m : Manifest) → HasGoodManifest w ca o m → IsManifestOf w ca o m
  manifest_of o m g =
      let p = parts_of o m g.passes in let c = cert_passes w Ee ca o.cert p.cert in let h = g.has in
      record { uri = h.has.uri; uri_is = h.has.uri_is; octets = h.octets; held = h.has.held; reads = h.reads; profile = c.0; signed = c.1; sound = content_passes w o p.content; current = (p.this, p.next) }

  pub files_of : (o : Object) (m : Manifest) → HasGoodManifest w ca o m → HasFiles w ca m
  files_of o m g =
      let p = parts_of o m g.passes in let s = some_of ca.tbs.access.repository p.folder in
      record { folder = s.0; folder_is = s.1; distinct = p.names; each = each_also (λ f. Each (PassesManifest w ca o m) (file_tests f)) (IsHeld w s.0) m.files (λ f all. all.1.0 s.0 s.1) p.each }

  -- The tests of a file that is held.
  pub file_passes : (o : Object) (m : Manifest) (folder : List ℕ) → IsFolder ca folder → (f : File) → IsHeld w folder f → Each (PassesManifest w ca o m) (file_tests f)
  file_passes o m folder is f h =
      let there : (other : List ℕ) → IsFolder ca other → IsHeld w other f = λ other also. subst (λ (v : List ℕ). IsHeld w v f) (same_some ca.tbs.access.repository folder other is also) h in
      (λ other also. let k = there other also in not_none (at w (join other f.name)) k.octets k.held, (there, tt))

  pub good_of : (o : Object) (m : Manifest) (crl : Crl) → IsManifestOf w ca o m → HasFiles w ca m → IsCrlOf w ca o m crl → HasGoodManifest w ca o m
  good_of o m crl i h l = record {
    has = record { octets = i.octets; has = record { uri = i.uri; uri_is = i.uri_is; held = i.held }; reads = i.reads };
    passes = whole_of o m (record {
      this = i.current.0;
      next = i.current.1;
      cert = passes_cert w Ee ca o.cert i.profile i.signed;
      content = passes_content w o i.sound;
      folder = not_none ca.tbs.access.repository h.folder h.folder_is;
      names = h.distinct;
      each = each_also (IsHeld w h.folder) (λ f. Each (PassesManifest w ca o m) (file_tests f)) m.files (file_passes o m h.folder h.folder_is) h.each;
      named = not_none o.cert.tbs.crl_uri l.uri l.uri_is;
      listed = λ uri e. subst (λ (v : List ℕ). Mem (files ca m) (lookup_key v)) (same_some o.cert.tbs.crl_uri l.uri uri l.uri_is e) l.listed;
    });
  }

  module _ (held : Kind → ℕ → Type 0) where
    pub stands_of : (p : Point) → HasGoodManifest w ca p.object p.manifest → HasList w p.object p.crl → Each (PassesList w held ca p) list_tests → StandsIn w held ca p
    stands_of p g l all =
        let parts = parts_of p.object p.manifest g.passes in
        record {
          point = record {
            manifest = manifest_of p.object p.manifest g;
            files = files_of p.object p.manifest g;
            crl = record { uri = l.uri; uri_is = l.uri_is; listed = parts.listed l.uri l.uri_is; octets = l.octets; held = l.held; reads = l.reads; authority = all.0; good = all.1.1.1.1.0; current = (all.1.0, all.1.1.0); not_revoked = all.1.1.1.0 };
          };
          fits = kinds_fit held p.object.cert (each_map ManifestClaim (PassesList w held ca p) kinds all.1.1.1.1.1);
        }

    pub good_in : (p : Point) → StandsIn w held ca p → HasGoodManifest w ca p.object p.manifest
    good_in p s = good_of p.object p.manifest p.crl s.point.manifest s.point.files s.point.crl

    pub list_in : (p : Point) → StandsIn w held ca p → HasList w p.object p.crl
    list_in p s = let l = s.point.crl in record { uri = l.uri; uri_is = l.uri_is; octets = l.octets; held = l.held; reads = l.reads }

    pub passes_in : (p : Point) → StandsIn w held ca p → Each (PassesList w held ca p) list_tests
    passes_in p s =
        let l = s.point.crl in
        (l.authority, (l.current.0, (l.current.1, (l.not_revoked, (l.good, map_each ManifestClaim (PassesList w held ca p) kinds (fit_kinds held p.object.cert s.fits))))))

    -- Two points whose manifest and list read there are one.
    pub same_point : (p q : Point) → HasManifest w ca p.object p.manifest → HasManifest w ca q.object q.manifest → HasList w p.object p.crl → HasList w q.object q.crl → p ≡ q
    same_point p q h k l n =
        let e = same_manifest p.object q.object p.manifest q.manifest h k in
        let f = one_list q.object p.crl q.crl (subst (λ (o : Object). HasList w o p.crl) e.0 l) n in
        λ i. record { object = e.0 i; manifest = e.1 i; crl = f i }

    -- Where a reason's condition fails, what is behind it isn't so.
    unread : PointFails w held ca BadManifest → (o : Object) (m : Manifest) → ¬ (HasManifest w ca o m)
    unread f o m h = f.2 o m (subst (λ (t : List ℕ). ManifestText w.strict t o m) (one_has h.octets f.0 h.has f.1) h.reads)

    unpassed : (t : ManifestTest) → PointFails w held ca (ManifestFails t) → (o : Object) (m : Manifest) → ¬ (HasGoodManifest w ca o m)
    unpassed t f o m g =
        none_fails (PassesManifest w ca f.0 f.1) (manifest_tests f.1) t
        (moved (λ x y. Each (PassesManifest w ca x y) (manifest_tests y)) o f.0 m f.1 g.has f.2 g.passes) f.3

    unlisted : PointFails w held ca BadList → (p : Point) → HasManifest w ca p.object p.manifest → ¬ (HasList w p.object p.crl)
    unlisted f p h l = f.3 p.crl (subst (λ (o : Object). HasList w o p.crl) (same_manifest p.object f.0 p.manifest f.1 h f.2.has).0 l)

    unfit : (t : ListTest) → PointFails w held ca (ListFails t) → (p : Point) → ¬ (StandsIn w held ca p)
    unfit t f p s =
        let e = same_point p f.0 (good_in p s).has f.1.has (list_in p s) f.2 in
        none_fails (PassesList w held ca f.0) list_tests t (subst (λ (q : Point). Each (PassesList w held ca q) list_tests) e (passes_in p s)) f.3

    pub refutes : (r : PointReason) → PointFails w held ca r → (p : Point) → ¬ (StandsIn w held ca p)
    refutes NoManifest f p s = let h = (good_in p s).has in f h.octets h.has
    refutes BadManifest f p s = unread f p.object p.manifest (good_in p s).has
    refutes (ManifestFails t) f p s = unpassed t f p.object p.manifest (good_in p s)
    refutes BadList f p s = unlisted f p (good_in p s).has (list_in p s)
    refutes (ListFails t) f p s = unfit t f p s

    pub has_reason : ((r : PointReason) → ¬ (PointFails w held ca r)) → ¬ ((p : Point) → ¬ (StandsIn w held ca p))
    has_reason none never = none NoManifest (λ octets h. none BadManifest (octets, h, λ o m reads. read o m (record { octets = octets; has = h; reads = reads })))
      where
        listed : (p : Point) → HasGoodManifest w ca p.object p.manifest → HasList w p.object p.crl → ⊥
        listed p g l = some_fails (PassesList w held ca p) list_tests (λ t f. none (ListFails t) (p, g, l, f)) (λ all. never p (stands_of p g l all))

        read : (o : Object) (m : Manifest) → HasManifest w ca o m → ⊥
        read o m h = some_fails (PassesManifest w ca o m) (manifest_tests m) (λ t f. none (ManifestFails t) (o, m, h, f)) (λ all.
            let g : HasGoodManifest w ca o m = record { has = h; passes = all } in
            none BadList (o, m, g, λ crl l. listed (record { object = o; manifest = m; crl = crl }) g l))

    same_tests : (t u : ManifestTest) → PointFails w held ca (ManifestFails t) → PointFails w held ca (ManifestFails u) → t ≡ u
    same_tests t u f g =
        one_fails (PassesManifest w ca g.0 g.1) (manifest_tests g.1) t u
        (moved (λ x y. FirstFailing (PassesManifest w ca x y) (manifest_tests y) t) f.0 g.0 f.1 g.1 f.2 g.2 f.3) g.3

    same_list_tests : (t u : ListTest) → PointFails w held ca (ListFails t) → PointFails w held ca (ListFails u) → t ≡ u
    same_list_tests t u f g =
        one_fails (PassesList w held ca g.0) list_tests t u
        (subst (λ (p : Point). FirstFailing (PassesList w held ca p) list_tests t) (same_point f.0 g.0 f.1.has g.1.has f.2 g.2) f.3) g.3

    pub one_reason : (r s : PointReason) → PointFails w held ca r → PointFails w held ca s → r ≡ s
    one_reason NoManifest NoManifest f g = refl
    one_reason NoManifest BadManifest f g = absurd (f g.0 g.1)
    one_reason NoManifest (ManifestFails u) f g = absurd (f g.2.octets g.2.has)
    one_reason NoManifest BadList f g = absurd (f g.2.has.octets g.2.has.has)
    one_reason NoManifest (ListFails u) f g = absurd (f g.1.has.octets g.1.has.has)
    one_reason BadManifest NoManifest f g = absurd (g f.0 f.1)
    one_reason BadManifest BadManifest f g = refl
    one_reason BadManifest (ManifestFails u) f g = absurd (unread f g.0 g.1 g.2)
    one_reason BadManifest BadList f g = absurd (unread f g.0 g.1 g.2.has)
    one_reason BadManifest (ListFails u) f g = absurd (unread f g.0.object g.0.manifest g.1.has)
    one_reason (ManifestFails t) NoManifest f g = absurd (g f.2.octets f.2.has)
    one_reason (ManifestFails t) BadManifest f g = absurd (unread g f.0 f.1 f.2)
    one_reason (ManifestFails t) (ManifestFails u) f g = ap ManifestFails (same_tests t u f g)
    one_reason (ManifestFails t) BadList f g = absurd (unpassed t f g.0 g.1 g.2)
    one_reason (ManifestFails t) (ListFails u) f g = absurd (unpassed t f g.0.object g.0.manifest g.1)
    one_reason BadList NoManifest f g = absurd (g f.2.has.octets f.2.has.has)
    one_reason BadList BadManifest f g = absurd (unread g f.0 f.1 f.2.has)
    one_reason BadList (ManifestFails u) f g = absurd (unpassed u g f.0 f.1 f.2)
    one_reason BadList BadList f g = refl
    one_reason BadList (ListFails u) f g = absurd (unlisted f g.0 g.1.has g.2)
    one_reason (ListFails t) NoManifest f g = absurd (g f.1.has.octets f.1.has.has)
    one_reason (ListFails t) BadManifest f g = absurd (unread g f.0.object f.0.manifest f.1.has)
    one_reason (ListFails t) (ManifestFails u) f g = absurd (unpassed u g f.0.object f.0.manifest f.1)
    one_reason (ListFails t) BadList f g = absurd (unlisted g f.0 f.1.has f.2)
    one_reason (ListFails t) (ListFails u) f g = ap ListFails (same_list_tests t u f g)

pub points_have_reasons : PointsHaveReasons
points_have_reasons w name a cs accepted =
    let ca = (last_of a cs).cert in let held = Holds a cs in
    record {
      refuses = λ r f. (refl, record { accepted = accepted; place = refl; none = refutes w ca held r f });
      some = λ why h none. has_reason w ca held (λ r. none r (sym h.0)) h.1.none;
      one = one_reason w ca held;
    }
