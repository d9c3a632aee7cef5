-- An authority has one manifest at most: what its manifest URI reads as, if that is current and its own.
use Rattle.std.proofs.Common.{◌≡◌, ℕ, List, [], ◌∷◌, ◌++◌, map, Some, None, Err, refl, sym, ap, ◌∙◌, subst, append_assoc}
use Rattle.objects_valid.specs.Kinds.{KindValue}
use Rattle.rpki_standing.specs.certs_basics.Lists.{Each, FirstFailing}
use Rattle.rpki_standing.specs.certs_extension.declared.forms.Role.TheVariants.{Ee}
use Rattle.rpki_rules.specs.declared.reason.points.ManifestTest.{ManifestTest as Told}
use Rattle.rpki_rules.specs.declared.reason.points.PointReason.{PointReason}
use Rattle.rpki_rules.specs.declared.reason.points.PointReason.TheVariants as why
use Rattle.rpki_rules.specs.Certs.{Cert}
use Rattle.rpki_rules.specs.Objects.{Manifest, ManifestText, Object}
use Rattle.rpki_rules.specs.World.{World, at}
use Rattle.rpki_rules.specs.Reasons.{PassesCert, PassesContent, cert_tests, content_tests}
use Rattle.rpki_rules.specs.declared.reason.certs.CertTest.{CertTest}
use Rattle.rpki_rules.specs.declared.reason.certs.ContentTest.{ContentTest}
use Rattle.rpki_rules.specs.PointReasons.{ManifestTest, ThisUpdate, NextUpdate, ManifestCert, ManifestContent, HasManifest, HasOctets, PassesManifest, manifest_tests}
use Rattle.rpki_rules.specs.ReasonViews.{manifest_test_of}
use Rattle.rpki_rules.proofs.FirstParts.{first_behind, first_in_front, first_map}
use Rattle.rpki_rules.proofs.Firsts.{each_join, each_map, each_split, map_each}
use Rattle.rpki_rules.proofs.PointReasons.{same_manifest}
use Rattle.rpki_rules.proofs.ReasonTests.{cert_passes, content_passes, passes_cert, passes_content}
use Rattle.rpki_standing.specs.Manifests.{FindsManifest, IsOwnManifest}
use Rattle.rpki_standing.specs.PointFaults.{FailsUnheld, held_tests, naming_tests, own_tests}
use Rattle.rpki_standing.proofs.Failing.{one_value}

-- All tests of a manifest are those of its three parts, one part after the other.
pub whole_tests : (m : Manifest) → own_tests ++ (held_tests m ++ naming_tests) ≡ manifest_tests m
whole_tests m =
    let certs : List ManifestTest = map ManifestCert (cert_tests Ee) in
    let contents : List ManifestTest = map ManifestContent content_tests in
    ap (λ (ts : List ManifestTest). ThisUpdate ∷ NextUpdate ∷ ts) (append_assoc certs contents (held_tests m ++ naming_tests))

module _ (w : World) (ca : Cert) where
  -- No object is at the authority's manifest URI, if it has one.
  pub none_held : ((octets : List ℕ) → ¬ (HasOctets w ca octets)) → FindsManifest w ca (Err why.NoManifest)
  none_held n = (λ o m h. n h.octets h.has, n)

  pub no_uri : ca.tbs.access.manifest ≡ None → (octets : List ℕ) → ¬ (HasOctets w ca octets)
  no_uri e octets h = let wrong : None ≡ Some h.uri = sym e ∙ h.uri_is in absurd cc

  pub no_object : (uri : List ℕ) → ca.tbs.access.manifest ≡ Some uri → at w uri ≡ None → (octets : List ℕ) → ¬ (HasOctets w ca octets)
  no_object uri u e octets h =
      let same : h.uri ≡ uri = one_value h.uri uri ca.tbs.access.manifest h.uri_is u in
      let held : at w uri ≡ Some octets = subst (λ (x : List ℕ). at w x ≡ Some octets) same h.held in
      let wrong : None ≡ Some octets = sym e ∙ held in
      absurd cc

  -- There is one: it reads as a manifest, or as none.
  module _ (uri octets : List ℕ) (u : ca.tbs.access.manifest ≡ Some uri) (h : at w uri ≡ Some octets) where
    has : HasOctets w ca octets
    has = record { uri = uri; uri_is = u; held = h }

    -- All octets that are there are these.
    same_octets : (other : List ℕ) → HasOctets w ca other → other ≡ octets
    same_octets other g =
        one_value other octets (at w uri) (subst (λ (x : List ℕ). at w x ≡ Some other) (one_value g.uri uri ca.tbs.access.manifest g.uri_is u) g.held) h

    pub none_reads : ((k : KindValue Manifest) → ¬ (ManifestText w.strict octets k.signed k.content)) → FindsManifest w ca (Err why.BadManifest)
    none_reads n = (
      λ o m g. n (record { signed = o; content = m }) (subst (λ (t : List ℕ). ManifestText w.strict t o m) (same_octets g.octets g.has) g.reads),
      (octets, has, λ o m t. n (record { signed = o; content = m }) t),
    )

    pub one_reads : (k : KindValue Manifest) → ManifestText w.strict octets k.signed k.content → HasManifest w ca k.signed k.content
    one_reads k t = record { octets = octets; has = has; reads = t }

  -- One manifest is read, at most.
  pub one_read : (j k : KindValue Manifest) → HasManifest w ca j.signed j.content → HasManifest w ca k.signed k.content → j ≡ k
  one_read j k r s =
      let e = same_manifest w ca j.signed k.signed j.content k.content r s in
      λ i. record { signed = e.0 i; content = e.1 i }

  -- A reason why none is read is one why there is no point.
  pub unread_fails : (r : PointReason) → FindsManifest w ca (Err r) → FailsUnheld w ca r
  unread_fails why.NoManifest f = f.1
  unread_fails why.BadManifest f = f.1
  unread_fails (why.ManifestFails t) f = absurd (f.0 f.1.0 f.1.1 f.1.2)
  unread_fails why.BadList f = absurd (f.0 f.1.0 f.1.1 f.1.2.has)
  unread_fails (why.ListFails t) f = absurd (f.0 f.1.0.object f.1.0.manifest f.1.1.has)

  module _ (k : KindValue Manifest) where
    abbrev Passed : ManifestTest → Type 0
    Passed t = PassesManifest w ca k.signed k.content t

    pub own_has : IsOwnManifest w ca k → HasManifest w ca k.signed k.content
    own_has o = record { octets = o.octets; has = record { uri = o.uri; uri_is = o.uri_is; held = o.held }; reads = o.reads }

    -- What is asked of an authority's own manifest is what its tests ask.
    pub own_of : HasManifest w ca k.signed k.content → Each (PassesManifest w ca k.signed k.content) own_tests → IsOwnManifest w ca k
    own_of h all =
        let parts = each_split Passed (map ManifestCert (cert_tests Ee)) (map ManifestContent content_tests) all.1.1 in
        let c = cert_passes w Ee ca k.signed.cert (each_map ManifestCert Passed (cert_tests Ee) parts.0) in
        record {
          uri = h.has.uri;
          uri_is = h.has.uri_is;
          octets = h.octets;
          held = h.has.held;
          reads = h.reads;
          profile = c.0;
          signed = c.1;
          sound = content_passes w k.signed (each_map ManifestContent Passed content_tests parts.1);
          current = (all.0, all.1.0);
        }

    pub own_passes : IsOwnManifest w ca k → Each (PassesManifest w ca k.signed k.content) own_tests
    own_passes o = (
      o.current.0,
      (
        o.current.1,
        each_join Passed (map ManifestCert (cert_tests Ee)) (map ManifestContent content_tests)
            (map_each ManifestCert Passed (cert_tests Ee) (passes_cert w Ee ca k.signed.cert o.profile o.signed))
            (map_each ManifestContent Passed content_tests (passes_content w k.signed o.sound)),
      ),
    )

    -- A manifest that isn't the authority's own.
    pub own_fails : (t : Told) → HasManifest w ca k.signed k.content → FirstFailing (PassesManifest w ca k.signed k.content) own_tests (manifest_test_of t) → FailsUnheld w ca (why.ManifestFails t)
    own_fails t h f = (
      k.signed,
      k.content,
      h,
      subst (λ (ts : List ManifestTest). FirstFailing Passed ts (manifest_test_of t)) (whole_tests k.content)
          (first_in_front Passed own_tests (held_tests k.content ++ naming_tests) (manifest_test_of t) f),
    )

    -- Its updates, its certificate and its content, one after the other.
    module _ (updates : Each (PassesManifest w ca k.signed k.content) (ThisUpdate ∷ NextUpdate ∷ [])) where
      pub cert_fails : (t : CertTest) → FirstFailing (PassesCert w Ee ca k.signed.cert) (cert_tests Ee) t → FirstFailing (PassesManifest w ca k.signed k.content) own_tests (ManifestCert t)
      cert_fails t f =
          first_behind Passed (ThisUpdate ∷ NextUpdate ∷ []) (map ManifestCert (cert_tests Ee) ++ map ManifestContent content_tests) (ManifestCert t) updates
          (first_in_front Passed (map ManifestCert (cert_tests Ee)) (map ManifestContent content_tests) (ManifestCert t) (first_map ManifestCert Passed (cert_tests Ee) t f))

      module _ (cert : Each (PassesCert w Ee ca k.signed.cert) (cert_tests Ee)) where
        pub content_fails : (t : ContentTest) → FirstFailing (PassesContent w k.signed) content_tests t → FirstFailing (PassesManifest w ca k.signed k.content) own_tests (ManifestContent t)
        content_fails t f =
            first_behind Passed (ThisUpdate ∷ NextUpdate ∷ []) (map ManifestCert (cert_tests Ee) ++ map ManifestContent content_tests) (ManifestContent t) updates
            (first_behind Passed (map ManifestCert (cert_tests Ee)) (map ManifestContent content_tests) (ManifestContent t)
            (map_each ManifestCert Passed (cert_tests Ee) cert) (first_map ManifestContent Passed content_tests t f))

        pub all_pass : Each (PassesContent w k.signed) content_tests → Each (PassesManifest w ca k.signed k.content) own_tests
        all_pass content = (
          updates.0,
          (
            updates.1.0,
            each_join Passed (map ManifestCert (cert_tests Ee)) (map ManifestContent content_tests)
                (map_each ManifestCert Passed (cert_tests Ee) cert) (map_each ManifestContent Passed content_tests content),
          ),
        )

  -- Where the moment is before the update, or behind the next.
  pub this_fails : (o : Object) (m : Manifest) → ¬ (PassesManifest w ca o m ThisUpdate) → FirstFailing (PassesManifest w ca o m) (ThisUpdate ∷ NextUpdate ∷ []) ThisUpdate
  this_fails o m n = record { front = []; behind = NextUpdate ∷ []; whole = refl; passed = tt; fails = n }

  pub next_fails : (o : Object) (m : Manifest) → PassesManifest w ca o m ThisUpdate → ¬ (PassesManifest w ca o m NextUpdate) → FirstFailing (PassesManifest w ca o m) (ThisUpdate ∷ NextUpdate ∷ []) NextUpdate
  next_fails o m p n = record { front = ThisUpdate ∷ []; behind = []; whole = refl; passed = (p, tt); fails = n }

  pub updates_fail : (k : KindValue Manifest) (t : Told) → FirstFailing (PassesManifest w ca k.signed k.content) (ThisUpdate ∷ NextUpdate ∷ []) (manifest_test_of t) → FirstFailing (PassesManifest w ca k.signed k.content) own_tests (manifest_test_of t)
  updates_fail k t f = first_in_front (PassesManifest w ca k.signed k.content) (ThisUpdate ∷ NextUpdate ∷ []) (map ManifestCert (cert_tests Ee) ++ map ManifestContent content_tests) (manifest_test_of t) f
