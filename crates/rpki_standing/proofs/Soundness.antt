-- What stands at a file of a publication point, of what the object there reads as.
use Rattle.std.proofs.Common.{◌++◌, ℕ, List, [], map, None, refl, subst}
use Rattle.rpki_standing.specs.certs_basics.Lists.{Each, FirstFailing}
use Rattle.rpki_standing.specs.certs_extension.declared.forms.Role.TheVariants.{Ee}
use Rattle.rpki_rules.specs.resources.Resources.{Resources}
use Rattle.rpki_rules.specs.declared.reason.files.ObjectTest.{ObjectTest as Told}
use Rattle.rpki_rules.specs.declared.reason.files.FileReason.TheVariants as reason
use Rattle.rpki_rules.specs.declared.reason.files.RevocationTest.{RevocationTest}
use Rattle.rpki_rules.specs.declared.reason.certs.CertTest.{CertTest}
use Rattle.rpki_rules.specs.declared.reason.certs.ContentTest.{ContentTest}
use Rattle.rpki_rules.specs.Certs.{Cert}
use Rattle.rpki_rules.specs.Objects.{Object}
use Rattle.rpki_rules.specs.Attests.{Payload, IsSigned}
use Rattle.rpki_rules.specs.Kinds.{InSet, Kind}
use Rattle.rpki_rules.specs.Points.{Point, files}
use Rattle.rpki_rules.specs.Words.{Mem}
use Rattle.rpki_rules.specs.World.{World}
use Rattle.rpki_rules.specs.Reasons.{PassesCert, cert_tests, PassesContent, content_tests, kinds}
use Rattle.rpki_rules.specs.FileReasons.{PassesRevocation, revocation_tests, ObjectTest, ObjectRevocation, ObjectCert, ObjectContent, ObjectClaim, cover_tests, PassesObject, HasPayload}
use Rattle.rpki_rules.specs.ReasonViews.{FileUnheld, object_test_of}
use Rattle.rpki_rules.proofs.Firsts.{none_fails, each_split, each_join, each_map, map_each}
use Rattle.rpki_rules.proofs.FirstParts.{first_in_front, first_behind, first_map}
use Rattle.rpki_rules.proofs.ReasonTests.{cert_passes, passes_cert, content_passes, passes_content}
use Rattle.rpki_rules.proofs.FileReasons.{revocation_passes, passes_revocation}
use Rattle.rpki_standing.specs.Published.{FindsReading, IsUnsigned, signed_tests}
use Rattle.rpki_standing.proofs.Reading.{one_reading}

-- The tests of an object that look at nothing that is held, one part after the other.
module _ (w : World) (held : Kind → ℕ → Type 0) (ca : Cert) (p : Point) (o : Object) where
  abbrev P : ObjectTest → Type 0
  P = PassesObject w held ca p o

  abbrev revocations : List ObjectTest
  revocations = map ObjectRevocation revocation_tests

  abbrev certs : List ObjectTest
  certs = map ObjectCert (cert_tests Ee)

  abbrev contents : List ObjectTest
  contents = map ObjectContent content_tests

  pub revoked : (t : RevocationTest) → FirstFailing (PassesRevocation p o.cert) revocation_tests t → FirstFailing P signed_tests (ObjectRevocation t)
  revoked t f = first_in_front P revocations (certs ++ contents) (ObjectRevocation t) (first_map ObjectRevocation P revocation_tests t f)

  module _ (all : Each (PassesRevocation p o.cert) revocation_tests) where
    unrevoked : Each P revocations
    unrevoked = map_each ObjectRevocation P revocation_tests all

    pub unissued : (t : CertTest) → FirstFailing (PassesCert w Ee ca o.cert) (cert_tests Ee) t → FirstFailing P signed_tests (ObjectCert t)
    unissued t f =
        first_behind P revocations (certs ++ contents) (ObjectCert t) unrevoked (first_in_front P certs contents (ObjectCert t) (first_map ObjectCert P (cert_tests Ee) t f))

    module _ (by : Each (PassesCert w Ee ca o.cert) (cert_tests Ee)) where
      issued : Each P certs
      issued = map_each ObjectCert P (cert_tests Ee) by

      pub unsound : (t : ContentTest) → FirstFailing (PassesContent w o) content_tests t → FirstFailing P signed_tests (ObjectContent t)
      unsound t f =
          first_behind P revocations (certs ++ contents) (ObjectContent t) unrevoked (first_behind P certs contents (ObjectContent t) issued (first_map ObjectContent P content_tests t f))

      pub sound : Each (PassesContent w o) content_tests → Each P signed_tests
      sound signed = each_join P revocations (certs ++ contents) unrevoked (each_join P certs contents issued (map_each ObjectContent P content_tests signed))

-- What is sound passes them, and the other way round.
module _ (w : World) (ca : Cert) (p : Point) (uri : List ℕ) where
  pub reading_of : (o : Object) (x : Payload) → IsSigned w ca p uri o x → HasPayload w uri o x
  reading_of o x s = record { octets = s.octets; held = s.held; reads = s.reads }

  pub passes_signed : (held : Kind → ℕ → Type 0) (o : Object) (x : Payload) → IsSigned w ca p uri o x → Each (PassesObject w held ca p o) signed_tests
  passes_signed held o x s =
      sound w held ca p o (passes_revocation p o.cert s.unrevoked) (passes_cert w Ee ca o.cert s.profile s.signed) (passes_content w o s.sound)

  -- What it reads as is sound.
  pub found_sound : (held : Kind → ℕ → Type 0) → Mem (files ca p.manifest) uri → (o : Object) (x : Payload) → HasPayload w uri o x → Each (PassesObject w held ca p o) signed_tests → IsSigned w ca p uri o x
  found_sound held listed o x h all =
      let P : ObjectTest → Type 0 = PassesObject w held ca p o in
      let a = each_split P (map ObjectRevocation revocation_tests) (map ObjectCert (cert_tests Ee) ++ map ObjectContent content_tests) all in
      let b = each_split P (map ObjectCert (cert_tests Ee)) (map ObjectContent content_tests) a.1 in
      let c = cert_passes w Ee ca o.cert (each_map ObjectCert P (cert_tests Ee) b.0) in
      record {
        listed = listed;
        octets = h.octets;
        held = h.held;
        reads = h.reads;
        profile = c.0;
        signed = c.1;
        unrevoked = revocation_passes p o.cert (each_map ObjectRevocation P revocation_tests a.0);
        sound = content_passes w o (each_map ObjectContent P content_tests b.1);
      }

  -- It reads as nothing.
  pub found_none : FindsReading w uri None → IsUnsigned w ca p uri reason.BadObject
  found_none n = record {
    none = λ o x s. n o x (reading_of o x s);
    fails = λ e sets on count. (e, n);
    unheld = λ sets. tt;
    cause_is = refl;
  }

  -- A test of what it reads as fails.
  pub found_unsound : (o : Object) (x : Payload) (t : Told) → HasPayload w uri o x → ((sets : Resources) → FirstFailing (PassesObject w (InSet sets) ca p o) signed_tests (object_test_of t))
      → ((sets : Resources) → FileUnheld w (InSet sets) uri (reason.ObjectFails t)) → IsUnsigned w ca p uri (reason.ObjectFails t)
  found_unsound o x t h f u = record {
    none = λ q y s.
        let none : Resources = record { asn = []; ipv4 = []; ipv6 = [] } in
        let e = one_reading w uri q o y x (reading_of q y s) h in
        none_fails (PassesObject w (InSet none) ca p o) signed_tests (object_test_of t)
        (passes_signed (InSet none) o y (subst (λ (z : Object). IsSigned w ca p uri z y) e.0 s)) (f none);
    fails = λ e sets on count. (o, x, h, first_in_front (PassesObject w (InSet sets) ca p o) signed_tests (map ObjectClaim kinds ++ cover_tests x) (object_test_of t) (f sets));
    unheld = u;
    cause_is = refl;
  }
