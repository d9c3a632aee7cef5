-- A world in which signed objects are read relaxed attests all that it attests where they are read strictly.
use Rattle.std.proofs.Common.{ℕ, true, false, List, [], ◌∷◌, inl, inr}
use Rattle.rpki_rules.specs.Relaxed.{relaxed, relaxed_cert}
use Rattle.rpki_rules.proofs.of_objects_payload.RelaxedObjects.{aspas_stay, manifests_stay, roas_stay}
use Rattle.rpki_rules.proofs.of_objects_payload.RelaxedInspected.{passes_relaxed, sound_relaxed}
use Rattle.rpki_rules.specs.certs_extension.declared.forms.Role.TheVariants.{Ee}
use Rattle.rpki_rules.specs.Certs.{Cert}
use Rattle.rpki_rules.specs.Objects.{File, Manifest, Object}
use Rattle.rpki_rules.specs.Locators.{https_first}
use Rattle.rpki_rules.specs.Words.{Each}
use Rattle.rpki_rules.specs.World.{World}
use Rattle.rpki_rules.specs.Kinds.{Kind}
use Rattle.rpki_rules.specs.Points.{Anchor, IsFirstHeld, IsHeld, IsManifestOf, IsPoint, Link, Point, Signed, Unrevoked}
use Rattle.rpki_rules.specs.Chains.{Descends, Fits, Holds, Issues, Stands, last_of}
use Rattle.rpki_rules.specs.Attests.{Good, IsGood, OfAspa, OfRoa, Payload, PayloadText, WitnessValue}
use Rattle.rpki_rules.specs.Laws.{KeepsAll}

module _ (w : World) where
  abbrev strictly : World
  strictly = record w { strict = true }

  abbrev loosely : World
  loosely = record w { strict = false }

  -- Certificates in files of their own are DER in both worlds; those of objects are in BER.
  signed_file : (c issuer : Cert) → Signed strictly c issuer → Signed loosely c issuer
  signed_file c issuer s = record { authority = s.authority; issuer_uri = s.issuer_uri; good = s.good; valid = s.valid }

  signed_object : (c issuer : Cert) → Signed strictly c issuer → Signed loosely (relaxed_cert c) issuer
  signed_object c issuer s = record { authority = s.authority; issuer_uri = s.issuer_uri; good = s.good; valid = s.valid }

  first_held : (uris : List (List ℕ)) (uri octets : List ℕ) → IsFirstHeld strictly uris uri octets → IsFirstHeld loosely uris uri octets
  first_held [] uri octets h = h
  first_held (u ∷ us) uri octets (inl h) = inl h
  first_held (u ∷ us) uri octets (inr h) = inr (h.0, first_held us uri octets h.1)

  anchor_kept : (name : List ℕ) (a : Link) → Anchor strictly name a → Anchor loosely name a
  anchor_kept name a h =
      let c = h.is_anchor in
      record {
        locator = h.locator;
        in_list = h.in_list;
        named = h.named;
        uris = h.uris;
        key = h.key;
        reads = h.reads;
        octets = h.octets;
        held = first_held (https_first h.uris) a.uri h.octets h.held;
        cert = h.cert;
        is_anchor = record { profile = c.profile; listed = c.listed; valid = c.valid; good = c.good; same_key = c.same_key };
      }

  -- The point with its manifest read relaxed.
  abbrev point_of : Point → Point
  point_of p = record p { object = relaxed p.object }

  manifest_kept : (ca : Cert) (o : Object) (m : Manifest) → IsManifestOf strictly ca o m → IsManifestOf loosely ca (relaxed o) m
  manifest_kept ca o m h = record {
    uri = h.uri;
    uri_is = h.uri_is;
    octets = h.octets;
    held = h.held;
    reads = manifests_stay h.octets o m h.reads;
    profile = passes_relaxed w.digests true Ee o.cert h.profile;
    signed = signed_object o.cert ca h.signed;
    sound = sound_relaxed w.digests w.good o h.sound;
    current = h.current;
  }

  files_kept : (folder : List ℕ) (files : List File) → Each (IsHeld strictly folder) files → Each (IsHeld loosely folder) files
  files_kept folder [] h = h
  files_kept folder (f ∷ fs) h = (record { octets = h.0.octets; held = h.0.held; hash = h.0.hash }, files_kept folder fs h.1)

  point_kept : (ca : Cert) (p : Point) → IsPoint strictly ca p → IsPoint loosely ca (point_of p)
  point_kept ca p h =
      let f = h.files in
      let c = h.crl in
      record {
        manifest = manifest_kept ca p.object p.manifest h.manifest;
        files = record { folder = f.folder; folder_is = f.folder_is; distinct = f.distinct; each = files_kept f.folder p.manifest.files f.each };
        crl = record { uri = c.uri; uri_is = c.uri_is; listed = c.listed; octets = c.octets; held = c.held; reads = c.reads; authority = c.authority; good = c.good; current = c.current; not_revoked = c.not_revoked };
      }

  unrevoked_file : (p : Point) (c : Cert) → Unrevoked p c → Unrevoked (point_of p) c
  unrevoked_file p c h = record { uri = h.uri; uri_is = h.uri_is; point_uri = h.point_uri; point_uri_is = h.point_uri_is; same = h.same; not_revoked = h.not_revoked }

  unrevoked_object : (p : Point) (c : Cert) → Unrevoked p c → Unrevoked (point_of p) (relaxed_cert c)
  unrevoked_object p c h = record { uri = h.uri; uri_is = h.uri_is; point_uri = h.point_uri; point_uri_is = h.point_uri_is; same = h.same; not_revoked = h.not_revoked }

  stands_kept : (a : Link) (cs : List Link) (p : Point) → Stands strictly a cs p → Stands loosely a cs (point_of p)
  stands_kept a cs p h = record { point = point_kept (last_of a cs).cert p h.point; fits = fits_kept (Holds a cs) p.object.cert h.fits }
    where
      fits_kept : (held : Kind → ℕ → Type 0) (c : Cert) → Fits held c → Fits held (relaxed_cert c)
      fits_kept held c h = h

  issues_kept : (held : Kind → ℕ → Type 0) (ca : Cert) (p : Point) (c : Link) → Issues strictly held ca p c → Issues loosely held ca (point_of p) c
  issues_kept held ca p c h =
      let f = h.file in
      let s = h.child.sound in
      record {
        file = record { listed = f.listed; extension = f.extension; reads = record { octets = f.reads.octets; held = f.reads.held; reads = f.reads.reads } };
        child = record { sound = record { profile = s.profile; signed = signed_file c.cert ca s.signed; unrevoked = unrevoked_file p c.cert s.unrevoked }; fits = h.child.fits };
      }

  descends_kept : (name : List ℕ) (a : Link) (cs : List Link) → Descends strictly name a cs → Descends loosely name a cs
  descends_kept name a [] h = anchor_kept name a h
  descends_kept name a (c ∷ cs) h =
      (descends_kept name a cs h.0, point_of h.1, stands_kept a cs h.1 h.2, issues_kept (Holds a cs) (last_of a cs).cert h.1 c h.3)

  payload_kept : (uri octets : List ℕ) (o : Object) (x : Payload) → PayloadText strictly uri octets o x → PayloadText loosely uri octets (relaxed o) x
  payload_kept uri octets o (OfRoa r) h = (h.0, roas_stay octets o r h.1)
  payload_kept uri octets o (OfAspa a) h = (h.0, aspas_stay octets o a h.1)

  object_kept : (held : Kind → ℕ → Type 0) (ca : Cert) (p : Point) (uri : List ℕ) (x : Payload) → IsGood strictly held ca p uri x → IsGood loosely held ca (point_of p) uri x
  object_kept held ca p uri x g =
      let o = g.object in
      let s = g.is_signed in
      record {
        object = relaxed o;
        is_signed = record {
          listed = s.listed;
          octets = s.octets;
          held = s.held;
          reads = payload_kept uri s.octets o x s.reads;
          profile = passes_relaxed w.digests true Ee o.cert s.profile;
          signed = signed_object o.cert ca s.signed;
          unrevoked = unrevoked_object p o.cert s.unrevoked;
          sound = sound_relaxed w.digests w.good o s.sound;
        };
        fits = g.fits;
        covered = g.covered;
      }

  good_kept : (t : WitnessValue) (x : Payload) → Good strictly t x → Good loosely t x
  good_kept t x g = record {
    anchor = g.anchor;
    below = g.below;
    places_are = g.places_are;
    accepted = record { descends = descends_kept t.locator g.anchor g.below g.accepted.descends; once = g.accepted.once; short = g.accepted.short };
    point = point_of g.point;
    stands = stands_kept g.anchor g.below g.point g.stands;
    good = object_kept (Holds g.anchor g.below) (last_of g.anchor g.below).cert g.point t.object x g.good;
  }

pub relaxed_keeps : (w : World) → KeepsAll (record w { strict = true }) (record w { strict = false })
relaxed_keeps w = record {
  origins_kept = λ x h. record { witness = h.witness; payload = h.payload; good = good_kept w h.witness h.payload h.good; one = h.one };
  provisions_kept = λ x h. record { witness = h.witness; payload = h.payload; good = good_kept w h.witness h.payload h.good; one = h.one };
}
