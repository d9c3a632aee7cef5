-- What a locator leads to, and what a file of a publication point is, the keys and the depth of its chain apart.
use Rattle.std.specs.Prelude.{◌≢◌, ◌⊎◌, ℕ, true, List, [], Option, Some, None, slice_index_or}
use Rattle.rpki_walk.specs.resources_chain.Sets.{IsRunsOf}
use Rattle.rpki_walk.specs.resources_chain.Claims.{Lists, Kept}
use Rattle.rpki_walk.specs.resources.Resources.{Resources}
use Rattle.rpki_rules.specs.Certs.{Key, Cert, CertText}
use Rattle.rpki_rules.specs.Kinds.{Kind, claim, of_kind}
use Rattle.rpki_rules.specs.World.{World}
use Rattle.rpki_rules.specs.Points.{Link, IsFirstHeld, IsAnchorCert, Point}
use Rattle.rpki_rules.specs.Chains.{StandsIn, HasExtension, cer, roa, asa, CertAt}
use Rattle.rpki_rules.specs.Attests.{Payload, IsGood}
use Rattle.rpki_rules.specs.Refused.{IsBadCer, IsBadPayload, IsIssued}
use Rattle.rpki_walk.specs.rpki_bundle.declared.parts.Locator.{Locator}
use Rattle.rpki_rules.specs.Locators.{LocatorText, https_first}
use Rattle.rpki_walk.specs.declared.repository.AnchorLookup.{AnchorLookup}
use Rattle.rpki_walk.specs.declared.repository.AnchorLookup.TheVariants as To
use Rattle.rpki_walk.specs.declared.repository.FileKind.{FileKind}
use Rattle.rpki_walk.specs.declared.repository.FileKind.TheVariants as Is

-- A file that is ignored: of another extension, or a `cer` that reads and isn't an authority's.
pub record IsIgnored (w : World) (uri : List ℕ) : Type 0 where
  pub no_payload : ¬ (HasExtension roa uri ⊎ HasExtension asa uri)
  pub no_authority : ¬ (HasExtension cer uri)
      ⊎ ((c : Cert) × CertAt w uri c × (c.tbs.basic_ca ≢ Some true))

-- In each kind the set has the numbers that are held below the certificate.
abbrev pub HasKept : (Kind → ℕ → Type 0) → Cert → Resources → Type 0
HasKept held c sets = (k : Kind) → IsRunsOf (Kept (claim c k) (held k)) (of_kind sets k)

abbrev pub IsFileKind : {A P : Type 0} → (A → Cert) → (A → Resources) → (P → Payload) → World
    → (Kind → ℕ → Type 0) → Cert → Point → List ℕ → FileKind A P → Type 0
IsFileKind cert sets payload w held ca p uri Is.Nothing = IsIgnored w uri
IsFileKind cert sets payload w held ca p uri Is.Bad =
    IsBadCer w held ca p uri ⊎ IsBadPayload w held ca p uri
IsFileKind cert sets payload w held ca p uri (Is.Child a) =
    IsIssued w held ca p uri (cert a) × HasKept held (cert a) (sets a)
IsFileKind cert sets payload w held ca p uri (Is.Attests x) = IsGood w held ca p uri (payload x)

-- The authority's publication point where it stands, or nothing where none does.
abbrev pub IsRead : {P : Type 0} → (P → Point) → World → (Kind → ℕ → Type 0) → Cert → Option P
    → Type 0
IsRead point w held ca None = (p : Point) → ¬ (StandsIn w held ca p)
IsRead point w held ca (Some p) = StandsIn w held ca (point p)

-- The locator at that place of the bundle's list.
abbrev pub locator_at : World → ℕ → Locator
locator_at w n = slice_index_or w.locators n (record { name = []; text = [] })

-- This locator leads to the trust anchor: https URIs first, and of all the first that is held (RFC 8630 3).
pub record LeadsTo (w : World) (l : Locator) (a : Link) : Type 0 where
  pub uris : List (List ℕ)
  pub key : Key
  pub reads : LocatorText l.text uris key
  pub octets : List ℕ
  pub held : IsFirstHeld w (https_first uris) a.uri octets
  pub cert : CertText octets a.cert
  pub is_anchor : IsAnchorCert w key a.cert

-- In each kind the set has the numbers that the certificate lists.
abbrev pub HasListed : Cert → Resources → Type 0
HasListed c sets = (k : Kind) → IsRunsOf (Lists (claim c k)) (of_kind sets k)

-- What the locator is: no locator, one that leads to no trust anchor, or one that leads to this.
abbrev pub IsAnchorLookup : {A : Type 0} → (A → Cert) → (A → Resources) → World → Locator
    → AnchorLookup A → Type 0
IsAnchorLookup cert sets w l To.Unreadable =
    (uris : List (List ℕ)) (key : Key) → ¬ (LocatorText l.text uris key)
IsAnchorLookup cert sets w l To.Nowhere =
    ((uris : List (List ℕ)) × (key : Key) × LocatorText l.text uris key)
    × ((a : Link) → ¬ (LeadsTo w l a))
IsAnchorLookup cert sets w l (To.Anchor uri a) =
    LeadsTo w l (record { uri = uri; cert = cert a }) × HasListed (cert a) (sets a)
