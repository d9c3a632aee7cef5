-- What holds in one world holds in another that has the same objects where it matters, and more good signatures.
use Rattle.std.proofs.Common.{◌≡◌, ℕ, ◌<◌, List, [], ◌∷◌, ◌++◌, map, length, Option, inl, inr, refl, sym, subst, ◌∙◌}
use Rattle.rpki_rules.specs.certs_basics.Uris.{lookup_key}
use Rattle.rpki_rules.specs.Certs.{Key, Cert, Verdicts, Within}
use Rattle.rpki_rules.specs.Objects.{Object, File, Manifest, sound_more}
use Rattle.rpki_rules.specs.certs_basics.Paths.{join}
use Rattle.rpki_rules.specs.Locators.{https_first}
use Rattle.rpki_rules.specs.Words.{Mem, Each}
use Rattle.rpki_rules.specs.World.{World}
use Rattle.rpki_rules.specs.Points.{Link, Signed, IsFirstHeld, IsAnchorCert, Anchor, Point, files, files_in, IsHeld, IsManifestOf, HasFiles, IsPoint}
use Rattle.rpki_rules.specs.Chains.{last_of, Holds, CertAt, Issues, Descends}
use Rattle.rpki_rules.specs.Attests.{Payload, OfRoa, OfAspa, PayloadText, IsGood, WitnessValue, Good}
use Rattle.rpki_rules.specs.Reach.{Names}
use Rattle.rpki_rules.proofs.Lists.{last_in}

-- The world with other objects, another depth and other good signatures.
abbrev pub turned : World → (List ℕ → Option (List ℕ)) → ℕ → Verdicts → World
turned w f depth v = record w { object = f; depth = depth; good = v }

module _ (w : World) (f : List ℕ → Option (List ℕ)) (depth : ℕ) (v : Verdicts) (more : Within w.good v) where
  abbrev other : World
  other = turned w f depth v

  -- The objects that the authority names are the same.
  abbrev pub SameAt : Cert → Type 0
  SameAt ca = (key : List ℕ) → Names w ca key → f key ≡ w.object key

  pub signed_moved : (c issuer : Cert) → Signed w c issuer → Signed other c issuer
  signed_moved c issuer s = record { authority = s.authority; issuer_uri = s.issuer_uri; good = more issuer.tbs.key c.signed.has_null c.signed.message c.signed.signature s.good; valid = s.valid }

  pub anchor_cert_moved : (key : Key) (c : Cert) → IsAnchorCert w key c → IsAnchorCert other key c
  anchor_cert_moved key c s = record { profile = s.profile; listed = s.listed; valid = s.valid; good = more c.tbs.key c.signed.has_null c.signed.message c.signed.signature s.good; same_key = s.same_key }

  pub anchor_moved : (name : List ℕ) (a : Link) (h : Anchor w name a) → IsFirstHeld other (https_first h.uris) a.uri h.octets → Anchor other name a
  anchor_moved name a h to = record { locator = h.locator; in_list = h.in_list; named = h.named; uris = h.uris; key = h.key; reads = h.reads; octets = h.octets; held = to; cert = h.cert; is_anchor = anchor_cert_moved h.key a.cert h.is_anchor }

  -- The files of a manifest that reads at the authority's URI are named.
  pub names_file : (ca : Cert) (o : Object) (m : Manifest) (key : List ℕ) → IsManifestOf w ca o m → Mem (files ca m) key → Names w ca key
  names_file ca o m key h l = inr (record { uri = h.uri; uri_is = h.uri_is; octets = h.octets; held = h.held; object = o; content = m; reads = h.reads; listed = l })

  pub manifest_moved : (ca : Cert) (o : Object) (m : Manifest) → SameAt ca → IsManifestOf w ca o m → IsManifestOf other ca o m
  manifest_moved ca o m same h = record { uri = h.uri; uri_is = h.uri_is; octets = h.octets; held = same (lookup_key h.uri) (inl (h.uri, h.uri_is, refl)) ∙ h.held; reads = h.reads; profile = h.profile; signed = signed_moved o.cert ca h.signed; sound = sound_more w.digests w.good v o more h.sound; current = h.current }

  held_moved : (folder : List ℕ) (g : File) → f (lookup_key (join folder g.name)) ≡ w.object (lookup_key (join folder g.name)) → IsHeld w folder g → IsHeld other folder g
  held_moved folder g e h = record { octets = h.octets; held = e ∙ h.held; hash = h.hash }

  each_moved : (folder : List ℕ) (gs : List File) → ((key : List ℕ) → Mem (map (λ (g : File). lookup_key (join folder g.name)) gs) key → f key ≡ w.object key) → Each (IsHeld w folder) gs → Each (IsHeld other folder) gs
  each_moved folder [] same h = h
  each_moved folder (g ∷ gs) same h = (held_moved folder g (same (lookup_key (join folder g.name)) (inl refl)) h.0, each_moved folder gs (λ key m. same key (inr m)) h.1)

  files_moved : (ca : Cert) (m : Manifest) → ((key : List ℕ) → Mem (files ca m) key → f key ≡ w.object key) → HasFiles w ca m → HasFiles other ca m
  files_moved ca m same h = record {
    folder = h.folder;
    folder_is = h.folder_is;
    distinct = h.distinct;
    each = each_moved h.folder m.files (λ key l. same key (subst (λ (o : Option (List ℕ)). Mem (files_in o m.files) key) (sym h.folder_is) l)) h.each;
  }

  pub point_moved : (ca : Cert) (p : Point) → SameAt ca → IsPoint w ca p → IsPoint other ca p
  point_moved ca p same h =
      let named : (key : List ℕ) → Mem (files ca p.manifest) key → f key ≡ w.object key = λ key l. same key (names_file ca p.object p.manifest key h.manifest l) in
      let c = h.crl in
      record {
        manifest = manifest_moved ca p.object p.manifest same h.manifest;
        files = files_moved ca p.manifest named h.files;
        crl = record { uri = c.uri; uri_is = c.uri_is; listed = c.listed; octets = c.octets; held = named (lookup_key c.uri) c.listed ∙ c.held; reads = c.reads; authority = c.authority; good = more ca.tbs.key p.crl.signed.has_null p.crl.signed.message p.crl.signed.signature c.good; current = c.current; not_revoked = c.not_revoked };
      }

  pub cert_at_moved : (uri : List ℕ) (c : Cert) → f uri ≡ w.object uri → CertAt w uri c → CertAt other uri c
  cert_at_moved uri c e h = record { octets = h.octets; held = e ∙ h.held; reads = h.reads }

  pub issues_moved : (held : _) (ca : Cert) (p : Point) (c : Link) → SameAt ca → IsPoint w ca p → Issues w held ca p c → Issues other held ca p c
  issues_moved held ca p c same h i = record {
    file = record { listed = i.file.listed; extension = i.file.extension; reads = cert_at_moved c.uri c.cert (same c.uri (names_file ca p.object p.manifest c.uri h.manifest i.file.listed)) i.file.reads };
    child = record { sound = record { profile = i.child.sound.profile; signed = signed_moved c.cert ca i.child.sound.signed; unrevoked = i.child.sound.unrevoked }; fits = i.child.fits };
  }

  payload_moved : (uri octets : List ℕ) (o : Object) (x : Payload) → PayloadText w uri octets o x → PayloadText other uri octets o x
  payload_moved uri octets o (OfRoa r) h = h
  payload_moved uri octets o (OfAspa a) h = h

  pub good_moved : (held : _) (ca : Cert) (p : Point) (uri : List ℕ) (x : Payload) → SameAt ca → IsPoint w ca p → IsGood w held ca p uri x → IsGood other held ca p uri x
  good_moved held ca p uri x same h g =
      let s = g.is_signed in
      record {
        object = g.object;
        is_signed = record { listed = s.listed; octets = s.octets; held = same uri (names_file ca p.object p.manifest uri h.manifest s.listed) ∙ s.held; reads = payload_moved uri s.octets g.object x s.reads; profile = s.profile; signed = signed_moved g.object.cert ca s.signed; unrevoked = s.unrevoked; sound = sound_more w.digests w.good v g.object more s.sound };
        fits = g.fits;
        covered = g.covered;
      }

  -- A chain goes over where its anchor does, and where what each of its certificates names is the same.
  pub descends_moved : (name : List ℕ) (a : Link) (cs : List Link) → (Anchor w name a → Anchor other name a) → ((c : Link) → Mem (cs ++ a ∷ []) c → SameAt c.cert) → Descends w name a cs → Descends other name a cs
  descends_moved name a [] to same h = to h
  descends_moved name a (c ∷ cs) to same h =
      let s : SameAt (last_of a cs).cert = same (last_of a cs) (inr (last_in a cs)) in
      (descends_moved name a cs to (λ d m. same d (inr m)) h.0, h.1, record { point = point_moved (last_of a cs).cert h.1 s h.2.point; fits = h.2.fits }, issues_moved (Holds a cs) (last_of a cs).cert h.1 c s h.2.point h.3)

  pub witness_moved : (t : WitnessValue) (x : Payload) (g : Good w t x) → length g.below < depth → (Anchor w t.locator g.anchor → Anchor other t.locator g.anchor) → ((c : Link) → Mem (g.below ++ g.anchor ∷ []) c → SameAt c.cert) → Good other t x
  witness_moved t x g short to same =
      let ca = (last_of g.anchor g.below).cert in
      let s : SameAt ca = same (last_of g.anchor g.below) (last_in g.anchor g.below) in
      record {
        anchor = g.anchor;
        below = g.below;
        places_are = g.places_are;
        accepted = record { descends = descends_moved t.locator g.anchor g.below to same g.accepted.descends; once = g.accepted.once; short = short };
        point = g.point;
        stands = record { point = point_moved ca g.point s g.stands.point; fits = g.stands.fits };
        good = good_moved (Holds g.anchor g.below) ca g.point t.object x s g.stands.point g.good;
      }
