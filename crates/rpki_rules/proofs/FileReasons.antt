-- A file of an accepted chain's point that is refused has a reason, and one.
use Rattle.std.proofs.Common.{◌≡◌, ◌⊎◌, ◌+◌, ℕ, List, ◌++◌, map, length, inl, inr, refl, ap, subst, ◌∙◌}
use Rattle.rpki_rules.specs.certs_basics.Lists.{Each, FirstFailing}
use Rattle.rpki_rules.specs.certs_basics.Uris.{lookup_key}
use Rattle.rpki_rules.specs.certs_extension.declared.forms.Role.TheVariants.{Ca, Ee}
use Rattle.rpki_rules.specs.declared.cause.Cause.{Cause}
use Rattle.rpki_rules.specs.declared.cause.Cause.TheVariants as cause
use Rattle.rpki_rules.specs.Certs.{Cert}
use Rattle.rpki_rules.specs.Objects.{Object}
use Rattle.rpki_rules.specs.Words.{Mem}
use Rattle.rpki_rules.specs.Kinds.{Kind, Ipv4, Ipv6}
use Rattle.rpki_rules.specs.World.{World}
use Rattle.rpki_rules.specs.Points.{Point, files, Unrevoked}
use Rattle.rpki_rules.specs.Chains.{last_of, keys, Holds, HasExtension, cer, roa, asa, IsChild}
use Rattle.rpki_rules.specs.Attests.{Payload, OfRoa, OfAspa, PayloadText, HoldsWith, IsCovered, IsGood}
use Rattle.rpki_rules.specs.Refused.{IsIssued, IsFileRefused}
use Rattle.rpki_rules.specs.Reasons.{cert_tests, content_tests, kinds}
use Rattle.rpki_rules.specs.FileReasons.{revocation_tests, PassesRevocation, CerTest, CerRevocation, CerCert, CerClaim, tests_of_cers, PassesCer, ObjectTest, ObjectRevocation, ObjectCert, ObjectContent, ObjectClaim, PrefixHeld, cover_tests, tests_of_objects, PassesObject, HasPayload, FileReason, BadCer, CerFails, Loop, Depth, BadObject, ObjectFails, FileFails, file_cause}
use Rattle.rpki_rules.specs.ReasonLaws.{FilesHaveReasons}
use Rattle.rpki_rules.proofs.Readings.{one_octets, one_cert_at, one_point, one_payload, no_cer_payload}
use Rattle.rpki_rules.proofs.Firsts.{none_fails, one_fails, some_fails, each_split, each_join, each_map, map_each, some_of, not_none, same_some}
use Rattle.rpki_rules.proofs.ReasonTests.{cert_passes, passes_cert, content_passes, passes_content, kinds_fit, fit_kinds}

-- What the tests ask together is what the rules ask.
pub revocation_passes : (p : Point) (c : Cert) → Each (PassesRevocation p c) revocation_tests → Unrevoked p c
revocation_passes p c all =
    let s = some_of c.tbs.crl_uri all.0 in let l = all.1.0 s.0 s.1 in
    record { uri = s.0; uri_is = s.1; point_uri = l.point_uri; point_uri_is = l.point_uri_is; same = l.same; not_revoked = all.1.1.0 }

pub passes_revocation : (p : Point) (c : Cert) → Unrevoked p c → Each (PassesRevocation p c) revocation_tests
passes_revocation p c u = (
  not_none c.tbs.crl_uri u.uri u.uri_is,
  (
    λ uri e. record { point_uri = u.point_uri; point_uri_is = u.point_uri_is; same = ap lookup_key (same_some c.tbs.crl_uri uri u.uri e u.uri_is) ∙ u.same },
    (u.not_revoked, tt),
  ),
)

payload_extension : (w : World) (uri octets : List ℕ) (o : Object) (x : Payload) → PayloadText w uri octets o x → HasExtension roa uri ⊎ HasExtension asa uri
payload_extension w uri octets o (OfRoa r) h = inl h.0
payload_extension w uri octets o (OfAspa a) h = inr h.0

module _ (w : World) (held : Kind → ℕ → Type 0) (ca : Cert) (p : Point) where
  pub cer_passes : (c : Cert) → Each (PassesCer w held ca p c) tests_of_cers → IsChild w held ca p c
  cer_passes c all =
      let P : CerTest → Type 0 = PassesCer w held ca p c in
      let a = each_split P (map CerRevocation revocation_tests) (map CerCert (cert_tests Ca) ++ map CerClaim kinds) all in
      let b = each_split P (map CerCert (cert_tests Ca)) (map CerClaim kinds) a.1 in
      let s = cert_passes w Ca ca c (each_map CerCert P (cert_tests Ca) b.0) in
      record {
        sound = record { profile = s.0; signed = s.1; unrevoked = revocation_passes p c (each_map CerRevocation P revocation_tests a.0) };
        fits = kinds_fit held c (each_map CerClaim P kinds b.1);
      }

  pub passes_cer : (c : Cert) → IsChild w held ca p c → Each (PassesCer w held ca p c) tests_of_cers
  passes_cer c i =
      let P : CerTest → Type 0 = PassesCer w held ca p c in
      each_join P (map CerRevocation revocation_tests) (map CerCert (cert_tests Ca) ++ map CerClaim kinds)
      (map_each CerRevocation P revocation_tests (passes_revocation p c i.sound.unrevoked))
      (each_join P (map CerCert (cert_tests Ca)) (map CerClaim kinds)
      (map_each CerCert P (cert_tests Ca) (passes_cert w Ca ca c i.sound.profile i.sound.signed))
      (map_each CerClaim P kinds (fit_kinds held c i.fits)))

  cover_passes : (o : Object) (x : Payload) → Each (PassesObject w held ca p o) (cover_tests x) → IsCovered (HoldsWith held o.cert) x
  cover_passes o (OfRoa r) all =
      let P : ObjectTest → Type 0 = PassesObject w held ca p o in
      let a = each_split P (map (PrefixHeld Ipv4) r.v4) (map (PrefixHeld Ipv6) r.v6) all in
      (each_map (PrefixHeld Ipv4) P r.v4 a.0, each_map (PrefixHeld Ipv6) P r.v6 a.1)
  cover_passes o (OfAspa a) all = all.0

  passes_cover : (o : Object) (x : Payload) → IsCovered (HoldsWith held o.cert) x → Each (PassesObject w held ca p o) (cover_tests x)
  passes_cover o (OfRoa r) c =
      let P : ObjectTest → Type 0 = PassesObject w held ca p o in
      each_join P (map (PrefixHeld Ipv4) r.v4) (map (PrefixHeld Ipv6) r.v6) (map_each (PrefixHeld Ipv4) P r.v4 c.0) (map_each (PrefixHeld Ipv6) P r.v6 c.1)
  passes_cover o (OfAspa a) c = (c, tt)

  module _ (uri : List ℕ) where
    pub object_passes : (o : Object) (x : Payload) → Mem (files ca p.manifest) uri → HasPayload w uri o x → Each (PassesObject w held ca p o) (tests_of_objects x) → IsGood w held ca p uri x
    object_passes o x listed h all =
        let P : ObjectTest → Type 0 = PassesObject w held ca p o in
        let c : List ObjectTest = map ObjectClaim kinds ++ cover_tests x in
        let b : List ObjectTest = map ObjectContent content_tests ++ c in
        let r = each_split P (map ObjectRevocation revocation_tests) (map ObjectCert (cert_tests Ee) ++ b) all in
        let s = each_split P (map ObjectCert (cert_tests Ee)) b r.1 in
        let t = each_split P (map ObjectContent content_tests) c s.1 in
        let k = each_split P (map ObjectClaim kinds) (cover_tests x) t.1 in
        let e = cert_passes w Ee ca o.cert (each_map ObjectCert P (cert_tests Ee) s.0) in
        record {
          object = o;
          is_signed = record {
            listed = listed;
            octets = h.octets;
            held = h.held;
            reads = h.reads;
            profile = e.0;
            signed = e.1;
            unrevoked = revocation_passes p o.cert (each_map ObjectRevocation P revocation_tests r.0);
            sound = content_passes w o (each_map ObjectContent P content_tests t.0);
          };
          fits = kinds_fit held o.cert (each_map ObjectClaim P kinds k.0);
          covered = cover_passes o x k.1;
        }

    pub passes_object : (x : Payload) → (g : IsGood w held ca p uri x) → Each (PassesObject w held ca p g.object) (tests_of_objects x)
    passes_object x g =
        let o = g.object in let i = g.is_signed in
        let P : ObjectTest → Type 0 = PassesObject w held ca p o in
        let c : List ObjectTest = map ObjectClaim kinds ++ cover_tests x in
        let b : List ObjectTest = map ObjectContent content_tests ++ c in
        each_join P (map ObjectRevocation revocation_tests) (map ObjectCert (cert_tests Ee) ++ b)
        (map_each ObjectRevocation P revocation_tests (passes_revocation p o.cert i.unrevoked))
        (each_join P (map ObjectCert (cert_tests Ee)) b
        (map_each ObjectCert P (cert_tests Ee) (passes_cert w Ee ca o.cert i.profile i.signed))
        (each_join P (map ObjectContent content_tests) c
        (map_each ObjectContent P content_tests (passes_content w o i.sound))
        (each_join P (map ObjectClaim kinds) (cover_tests x)
        (map_each ObjectClaim P kinds (fit_kinds held o.cert g.fits))
        (passes_cover o x g.covered))))

    pub payload_of : (x : Payload) → (g : IsGood w held ca p uri x) → HasPayload w uri g.object x
    payload_of x g = let i = g.is_signed in record { octets = i.octets; held = i.held; reads = i.reads }

    pub same_payload : (o o' : Object) (x x' : Payload) → HasPayload w uri o x → HasPayload w uri o' x' → (o ≡ o') × (x ≡ x')
    same_payload o o' x x' h k =
        one_payload w uri k.octets o o' x x' (subst (λ (t : List ℕ). PayloadText w uri t o x) (one_octets w uri h.octets k.octets h.held k.held) h.reads) k.reads

    -- What is said of one object and what it attests is said of another that reads there.
    moved : (Q : Object → Payload → Type 0) (o o' : Object) (x x' : Payload) → HasPayload w uri o x → HasPayload w uri o' x' → Q o x → Q o' x'
    moved Q o o' x x' h k y =
        let e = same_payload o o' x x' h k in
        subst (λ (z : Payload). Q o' z) e.1 (subst (λ (z : Object). Q z x) e.0 y)

    module _ (on : List (List ℕ)) (count : ℕ) where
      abbrev Fails : FileReason → Type 0
      Fails r = FileFails w held on count ca p uri r

      -- A certificate that is issued passes all tests.
      unissued : (t : CerTest) → Fails (CerFails t) → (c : Cert) → ¬ (IsIssued w held ca p uri c)
      unissued t f c i =
          let e = one_cert_at w uri c f.0 i.reads f.1.reads in
          none_fails (PassesCer w held ca p f.0) tests_of_cers t (passes_cer f.0 (subst (λ (d : Cert). IsChild w held ca p d) e i.child)) f.2

      not_both : (c d : Cert) → IsIssued w held ca p uri c → IsIssued w held ca p uri d → Mem on c.tbs.subject_key_identifier → ¬ (¬ (Mem on d.tbs.subject_key_identifier))
      not_both c d i j m n = n (subst (λ (e : Cert). Mem on e.tbs.subject_key_identifier) (one_cert_at w uri c d i.reads j.reads) m)

      pub refuses_file : (r : FileReason) → Fails r → IsFileRefused w held on count ca p uri (file_cause r)
      refuses_file BadCer f = inl (record { extension = f.0; cases = inl f.1 })
      refuses_file (CerFails t) f = inl (record {
        extension = f.1.extension;
        cases = inr (f.0, f.1.reads, f.1.authority, λ i. none_fails (PassesCer w held ca p f.0) tests_of_cers t (passes_cer f.0 i) f.2);
      })
      refuses_file Loop f = f
      refuses_file Depth f = f
      refuses_file BadObject f = inr (record { extension = f.0; none = λ x g. f.1 g.object x (payload_of x g) })
      refuses_file (ObjectFails t) f = inr (record {
        extension = payload_extension w uri f.2.octets f.0 f.1 f.2.reads;
        none = λ x g. none_fails (PassesObject w held ca p f.0) (tests_of_objects f.1) t
            (moved (λ o y. Each (PassesObject w held ca p o) (tests_of_objects y)) g.object f.0 x f.1 (payload_of x g) f.2 (passes_object x g)) f.3;
      })

      pub has_reason : Mem (files ca p.manifest) uri → (why : Cause) → IsFileRefused w held on count ca p uri why → ¬ ((r : FileReason) → file_cause r ≡ why → ¬ (Fails r))
      has_reason listed cause.Tal h none = h
      has_reason listed cause.Anchor h none = h
      has_reason listed cause.Point h none = h
      has_reason listed cause.Object (inl b) none = elim b.cases [
        | inl n ↦ none BadCer refl (b.extension, n)
        | inr q ↦ some_fails (PassesCer w held ca p q.0) tests_of_cers
            (λ t f. none (CerFails t) refl (q.0, record { extension = b.extension; reads = q.1; authority = q.2 }, f))
            (λ all. q.3 (cer_passes q.0 all))
      ]
      has_reason listed cause.Object (inr b) none = none BadObject refl (
        b.extension,
        λ o x h.
            some_fails (PassesObject w held ca p o) (tests_of_objects x)
            (λ t f. none (ObjectFails t) refl (o, x, h, f))
            (λ all. b.none x (object_passes o x listed h all)),
      )
      has_reason listed cause.Loop h none = none Loop refl h
      has_reason listed cause.Depth h none = none Depth refl h

      same_cer_tests : (t u : CerTest) → Fails (CerFails t) → Fails (CerFails u) → t ≡ u
      same_cer_tests t u f g =
          one_fails (PassesCer w held ca p g.0) tests_of_cers t u
          (subst (λ (c : Cert). FirstFailing (PassesCer w held ca p c) tests_of_cers t) (one_cert_at w uri f.0 g.0 f.1.reads g.1.reads) f.2) g.2

      same_object_tests : (t u : ObjectTest) → Fails (ObjectFails t) → Fails (ObjectFails u) → t ≡ u
      same_object_tests t u f g =
          one_fails (PassesObject w held ca p g.0) (tests_of_objects g.1) t u
          (moved (λ o x. FirstFailing (PassesObject w held ca p o) (tests_of_objects x) t) f.0 g.0 f.1 g.1 f.2 g.2 f.3) g.3

      -- A `cer` is no `roa` and no `asa`.
      apart : HasExtension cer uri → ¬ (Fails BadObject)
      apart c f = no_cer_payload uri c f.0

      apart_too : HasExtension cer uri → (t : ObjectTest) → ¬ (Fails (ObjectFails t))
      apart_too c t f = no_cer_payload uri c (payload_extension w uri f.2.octets f.0 f.1 f.2.reads)

      pub one_reason : (r s : FileReason) → Fails r → Fails s → r ≡ s
      one_reason BadCer BadCer f g = refl
      one_reason BadCer (CerFails u) f g = absurd (f.1 g.0 g.1.reads)
      one_reason BadCer Loop f g = absurd (f.1 g.0 g.1.reads)
      one_reason BadCer Depth f g = absurd (f.1 g.0 g.1.reads)
      one_reason BadCer BadObject f g = absurd (apart f.0 g)
      one_reason BadCer (ObjectFails u) f g = absurd (apart_too f.0 u g)
      one_reason (CerFails t) BadCer f g = absurd (g.1 f.0 f.1.reads)
      one_reason (CerFails t) (CerFails u) f g = ap CerFails (same_cer_tests t u f g)
      one_reason (CerFails t) Loop f g = absurd (unissued t f g.0 g.1)
      one_reason (CerFails t) Depth f g = absurd (unissued t f g.0 g.1)
      one_reason (CerFails t) BadObject f g = absurd (apart f.1.extension g)
      one_reason (CerFails t) (ObjectFails u) f g = absurd (apart_too f.1.extension u g)
      one_reason Loop BadCer f g = absurd (g.1 f.0 f.1.reads)
      one_reason Loop (CerFails u) f g = absurd (unissued u g f.0 f.1)
      one_reason Loop Loop f g = refl
      one_reason Loop Depth f g = absurd (not_both f.0 g.0 f.1 g.1 f.2 g.2)
      one_reason Loop BadObject f g = absurd (apart f.1.extension g)
      one_reason Loop (ObjectFails u) f g = absurd (apart_too f.1.extension u g)
      one_reason Depth BadCer f g = absurd (g.1 f.0 f.1.reads)
      one_reason Depth (CerFails u) f g = absurd (unissued u g f.0 f.1)
      one_reason Depth Loop f g = absurd (not_both g.0 f.0 g.1 f.1 g.2 f.2)
      one_reason Depth Depth f g = refl
      one_reason Depth BadObject f g = absurd (apart f.1.extension g)
      one_reason Depth (ObjectFails u) f g = absurd (apart_too f.1.extension u g)
      one_reason BadObject BadCer f g = absurd (apart g.0 f)
      one_reason BadObject (CerFails u) f g = absurd (apart g.1.extension f)
      one_reason BadObject Loop f g = absurd (apart g.1.extension f)
      one_reason BadObject Depth f g = absurd (apart g.1.extension f)
      one_reason BadObject BadObject f g = refl
      one_reason BadObject (ObjectFails u) f g = absurd (f.1 g.0 g.1 g.2)
      one_reason (ObjectFails t) BadCer f g = absurd (apart_too g.0 t f)
      one_reason (ObjectFails t) (CerFails u) f g = absurd (apart_too g.1.extension t f)
      one_reason (ObjectFails t) Loop f g = absurd (apart_too g.1.extension t f)
      one_reason (ObjectFails t) Depth f g = absurd (apart_too g.1.extension t f)
      one_reason (ObjectFails t) BadObject f g = absurd (g.1 f.0 f.1 f.2)
      one_reason (ObjectFails t) (ObjectFails u) f g = ap ObjectFails (same_object_tests t u f g)

pub files_have_reasons : FilesHaveReasons
files_have_reasons w name a cs p uri accepted stands listed =
    let ca = (last_of a cs).cert in let held = Holds a cs in let on = keys a cs in let count = length cs + 1 in
    record {
      refuses = λ r f. record { accepted = accepted; point = p; stands = stands; listed = listed; refused = refuses_file w held ca p uri on count r f };
      some = λ why h none.
          let e = one_point w ca h.point p h.stands.point stands.point in
          has_reason w held ca p uri on count listed why (subst (λ (q : Point). IsFileRefused w held on count ca q uri why) e h.refused) none;
      one = one_reason w held ca p uri on count;
    }
