-- Files of a publication point that attest something.
use Rattle.std.proofs.Common.{◌≡◌, ◌↔◌, ◌⊎◌, ◌∷◌, ◌++◌, ◌∙◌, [], ℕ, Bool, true, false, IsTrue, List, map, Result, Ok, Err, refl, sym, ap, subst}
use Rattle.std.specs.Prelude.{IfErr}
use Rattle.rpki_steps.specs.Holders.{cert_of, sets_of}
use Rattle.rpki_steps.specs.certs_basics.Lists.{Each, FirstFailing}
use Rattle.rpki_steps.specs.certs_verify.Holders.{ResourceCertValue}
use Rattle.rpki_steps.specs.certs_x509.declared.errors.verification.Overclaimed.{Overclaimed}
use Rattle.rpki_steps.specs.resources.Resources.{Resources}
use Rattle.rpki_steps.specs.resources_chain.Sets.{InRun, InRuns}
use Rattle.rpki_rules.specs.resources_ip_prefix.Prefixes.{prefix_run}
use Rattle.rpki_rules.specs.resources_ip_prefix.Encodings.{FirstBits, prefix_bits}
use Rattle.rpki_rules.specs.resources_ip_prefix.Prefix.{run_of_prefix}
use Rattle.rpki_rules.specs.resources_ip_prefix.declared.prefix.Prefix.{Prefix}
use Rattle.rpki_standing.proofs.PassedTo.{PassedTo}
use Rattle.rpki_rules.specs.declared.reason.files.ObjectTest.{ObjectTest as Told}
use Rattle.rpki_rules.specs.declared.reason.files.ObjectTest.TheVariants as told
use Rattle.rpki_rules.specs.declared.reason.files.FileReason.{FileReason}
use Rattle.rpki_rules.specs.declared.reason.files.FileReason.TheVariants as reason
use Rattle.rpki_rules.specs.Certs.{Cert}
use Rattle.rpki_rules.specs.Objects.{Aspa, Object, Roa, RoaAddress}
use Rattle.rpki_rules.specs.Attests.{IsGood, IsSigned, OfAspa, OfRoa, Payload}
use Rattle.rpki_rules.specs.Chains.{Fits, HasExtension, asa, roa}
use Rattle.rpki_rules.specs.Kinds.{As, InSet, Ipv4, Ipv6, Kind, of_kind}
use Rattle.rpki_rules.specs.Points.{Point}
use Rattle.rpki_rules.specs.Reasons.{AreUnheld, kinds}
use Rattle.rpki_rules.specs.FileReasons.{ObjectTest, ObjectClaim, PrefixHeld, CustomerHeld, HasPayload, PassesObject, cover_tests}
use Rattle.rpki_rules.specs.ReasonViews.{ObjectUnheld, kind_claimed, object_test_of, runs_claimed}
use Rattle.rpki_rules.specs.World.{World}
use Rattle.rpki_walk.specs.Repository.{HasKept}
use Rattle.rpki_walk.specs.declared.repository.FileKind.TheVariants as Is
use Rattle.rpki_standing.specs.Published.{IsUnsigned, PublishedValue, signed_tests}
use Rattle.rpki_standing.specs.Tests.{Tells}
use Rattle.rpki_standing.specs.Views.{payload_of}
use Rattle.rpki_standing.specs.declared.payloads.payload.Payload.{Payload as CodePayload}
use Rattle.rpki_standing.specs.objects_payload.Covered.{AreHeld, IsHeld}
use Rattle.rpki_standing.proofs.Reading.{one_reading}
use Rattle.rpki_standing.proofs.Soundness.{passes_signed, reading_of}
use Rattle.rpki_rules.proofs.Firsts.{each_also, each_join, fails_also, map_each}
use Rattle.rpki_rules.proofs.FirstParts.{first_behind, first_here, first_in_front, first_map}
use Rattle.rpki_rules.proofs.FileReasons.{object_passes}
use Rattle.rpki_rules.proofs.ReasonTests.{fit_kinds}
use Rattle.rpki_steps.specs.Claims.{IsUnfit}
use Rattle.rpki_steps.specs.Files.{JudgesFile}
use Rattle.rpki_steps.specs.Objects.{held_tests}

-- A test of a prefix says of its addresses.
abbrev AllHeld : (ℕ → Type 0) → FirstBits → Type 0
AllHeld held b = (n : ℕ) → InRun (prefix_run b.addr b.len) n → held n

pub next_held : (held : ℕ → Type 0) (p : Prefix) (a : RoaAddress) (b : Bool) → prefix_bits p ≡ record { addr = a.addr; len = a.len } → IsTrue b ↔ ((n : ℕ) → InRun (run_of_prefix p) n → held n) → b ≡ true → IsHeld held a
next_held held p a b e told is = subst (AllHeld held) e (told.0 is)

pub is_unheld : (held : ℕ → Type 0) (p : Prefix) (a : RoaAddress) (b : Bool) → prefix_bits p ≡ record { addr = a.addr; len = a.len } → IsTrue b ↔ ((n : ℕ) → InRun (run_of_prefix p) n → held n) → b ≡ false → IsHeld held a → ⊥
is_unheld held p a b e told is h = let t : b ≡ true = told.1 (subst (AllHeld held) (sym e) h) in absurd cc

-- The next of a list fails, and all before it passed.
pub next_fails : {X : Type 0} (P : X → Type 0) (all left others : List X) (x : X) → left ≡ x ∷ others → PassedTo P all left → (P x → ⊥) → FirstFailing P all x
next_fails {X} P all left others x e h n = record {
  front = h.front;
  behind = others;
  whole = h.whole ∙ ap (λ (zs : List X). h.front ++ zs) e;
  passed = h.passed;
  fails = n;
}

-- What is attested, by the sets that the object's certificate holds below one that holds `above`.
module _ (w : World) (above : Resources) (ca : Cert) (p : Point) (o : Object) (sets : Resources) (kept : HasKept (InSet above) o.cert sets) where
  abbrev P : ObjectTest → Type 0
  P = PassesObject w (InSet above) ca p o

  to : (k : Kind) (a : RoaAddress) → IsHeld (InRuns (of_kind sets k)) a → P (PrefixHeld k a)
  to k a h = λ n i. ((kept k).same n).0 (h n i)

  back : (k : Kind) (a : RoaAddress) → P (PrefixHeld k a) → IsHeld (InRuns (of_kind sets k)) a
  back k a h = λ n i. ((kept k).same n).1 (h n i)

  prefix_fails : (k : Kind) (addresses : List RoaAddress) (a : RoaAddress) → FirstFailing (IsHeld (InRuns (of_kind sets k))) addresses a → FirstFailing P (map (PrefixHeld k) addresses) (PrefixHeld k a)
  prefix_fails k addresses a f =
      first_map (PrefixHeld k) P addresses a (fails_also (IsHeld (InRuns (of_kind sets k))) (λ (b : RoaAddress). P (PrefixHeld k b)) addresses a (to k) (back k a) f)

  prefixes_held : (k : Kind) (addresses : List RoaAddress) → AreHeld (InRuns (of_kind sets k)) addresses → Each P (map (PrefixHeld k) addresses)
  prefixes_held k addresses h =
      map_each (PrefixHeld k) P addresses (each_also (IsHeld (InRuns (of_kind sets k))) (λ (b : RoaAddress). P (PrefixHeld k b)) addresses (to k) h)

  module _ (r : Roa) where
    abbrev v4s : List ObjectTest
    v4s = map (PrefixHeld Ipv4) r.v4

    abbrev v6s : List ObjectTest
    v6s = map (PrefixHeld Ipv6) r.v6

    pub v4_fails : (a : RoaAddress) → FirstFailing (IsHeld (InRuns sets.ipv4)) r.v4 a → FirstFailing P (cover_tests (OfRoa r)) (PrefixHeld Ipv4 a)
    v4_fails a f = first_in_front P v4s v6s (PrefixHeld Ipv4 a) (prefix_fails Ipv4 r.v4 a f)

    pub v6_fails : (a : RoaAddress) → AreHeld (InRuns sets.ipv4) r.v4 → FirstFailing (IsHeld (InRuns sets.ipv6)) r.v6 a → FirstFailing P (cover_tests (OfRoa r)) (PrefixHeld Ipv6 a)
    v6_fails a h f = first_behind P v4s v6s (PrefixHeld Ipv6 a) (prefixes_held Ipv4 r.v4 h) (prefix_fails Ipv6 r.v6 a f)

    pub roa_held : AreHeld (InRuns sets.ipv4) r.v4 → AreHeld (InRuns sets.ipv6) r.v6 → Each P (cover_tests (OfRoa r))
    roa_held h k = each_join P v4s v6s (prefixes_held Ipv4 r.v4 h) (prefixes_held Ipv6 r.v6 k)

  module _ (a : Aspa) where
    pub customer_held : InRuns sets.asn a.customer → Each P (cover_tests (OfAspa a))
    customer_held h = (((kept As).same a.customer).0 h, tt)

    pub customer_fails : (InRuns sets.asn a.customer → ⊥) → FirstFailing P (cover_tests (OfAspa a)) (CustomerHeld a.customer)
    customer_fails n = first_here P (CustomerHeld a.customer) [] (λ h. n (((kept As).same a.customer).1 h))

-- The claim of the object's certificate, and what it attests.
module _ (w : World) (above : Resources) (ca : Cert) (p : Point) (o : Object) (x : Payload) where
  abbrev R : ObjectTest → Type 0
  R = PassesObject w (InSet above) ca p o

  abbrev claims : List ObjectTest
  claims = map ObjectClaim kinds

  -- The claim doesn't fit.
  pub claim_fails : (c : Cert) (t : Overclaimed) → c ≡ o.cert → IsUnfit (InSet above) c t → FirstFailing R (held_tests x) (ObjectClaim (kind_claimed t))
  claim_fails c t e u =
      let h : IsUnfit (InSet above) o.cert t = subst (λ (z : Cert). IsUnfit (InSet above) z t) e u in
      first_in_front R claims (cover_tests x) (ObjectClaim (kind_claimed t)) (first_map ObjectClaim R kinds (kind_claimed t) h.first)

  -- It fits, so what is attested tells.
  pub cover_told : (c : Cert) (y : Payload) (r : Result (Unit {0}) Told) → c ≡ o.cert → y ≡ x → Fits (InSet above) c → Tells object_test_of R (cover_tests y) r → Tells object_test_of R (held_tests x) r
  cover_told c y (Ok t) e same f h =
      let g : Each R claims = map_each ObjectClaim R kinds (fit_kinds (InSet above) o.cert (subst (Fits (InSet above)) e f)) in
      each_join R claims (cover_tests x) g (subst (λ (z : Payload). Each R (cover_tests z)) same h)
  cover_told c y (Err t) e same f h =
      let g : Each R claims = map_each ObjectClaim R kinds (fit_kinds (InSet above) o.cert (subst (Fits (InSet above)) e f)) in
      first_behind R claims (cover_tests x) (object_test_of t) g (subst (λ (z : Payload). FirstFailing R (cover_tests z) (object_test_of t)) same h)

-- The numbers that aren't held, of each object there.
pub claim_unheld : (w : World) (held : Kind → ℕ → Type 0) (uri : List ℕ) (o : Object) (x : Payload) (c : Cert) (t : Overclaimed) → c ≡ o.cert → HasPayload w uri o x → IsUnfit held c t → ObjectUnheld w held uri (told.ObjectClaim t)
claim_unheld w held uri o x c t e h u = λ q y k.
    let same = same_payload_there q y k in
    subst (λ (z : Object). AreUnheld held z.cert (kind_claimed t) (runs_claimed t)) same (subst (λ (z : Cert). AreUnheld held z (kind_claimed t) (runs_claimed t)) e u.unheld)
  where
    same_payload_there : (q : Object) (y : Payload) → HasPayload w uri q y → o ≡ q
    same_payload_there q y k = (one_reading w uri o q x y h k).0

-- What is said of whatever is held is said of this.
pub cover_unheld : (above : Resources) (o : Object) (x : Payload) (r : Result (Unit {0}) Told) → IfErr r (λ t. (w : World) (held : Resources) (uri : List ℕ) → ObjectUnheld w (InSet held) uri t)
    → IfErr r (λ t. (w : World) (uri : List ℕ) → HasPayload w uri o x → ObjectUnheld w (InSet above) uri t)
cover_unheld above o x (Ok y) h = tt
cover_unheld above o x (Err t) h = λ w uri k. h w above uri

module _ (w : World) (ca : ResourceCertValue) (p : Point) (uri : List ℕ) where
  -- No object is sound there.
  pub no_object : (r : FileReason) → HasExtension roa uri ⊎ HasExtension asa uri → IsUnsigned w (cert_of ca) p uri r → JudgesFile w ca p uri (Err r)
  no_object r e u = record { fails = u.fails e (sets_of ca); unheld = u.unheld (sets_of ca); cause_is = u.cause_is }

  module _ (s : PublishedValue) (is : IsSigned w (cert_of ca) p uri s.object s.payload) where
    abbrev S : ObjectTest → Type 0
    S = PassesObject w (InSet (sets_of ca)) (cert_of ca) p s.object

    signed : Each S signed_tests
    signed = passes_signed w (cert_of ca) p uri (InSet (sets_of ca)) s.object s.payload is

    there : HasPayload w uri s.object s.payload
    there = reading_of w (cert_of ca) p uri s.object s.payload is

    -- The object that is sound there isn't within what is held.
    pub not_within : (t : Told) → FirstFailing S (held_tests s.payload) (object_test_of t) → ObjectUnheld w (InSet (sets_of ca)) uri t → JudgesFile w ca p uri (Err (reason.ObjectFails t))
    not_within t f u = record {
      fails = λ on count. (s.object, s.payload, there, first_behind S signed_tests (held_tests s.payload) (object_test_of t) signed f);
      unheld = u;
      cause_is = refl;
    }

    -- It is.
    pub good : (content : CodePayload) → payload_of content ≡ s.payload → Each S (held_tests s.payload) → JudgesFile w ca p uri (Ok (Is.Attests content))
    good content e all =
        subst (λ (x : Payload). IsGood w (InSet (sets_of ca)) (cert_of ca) p uri x) (sym e)
        (object_passes w (InSet (sets_of ca)) (cert_of ca) p uri s.object s.payload is.listed there (each_join S signed_tests (held_tests s.payload) signed all))
