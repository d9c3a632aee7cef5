-- Route origin attestations (RFC 9582 4).
use Rattle.std.specs.Prelude.{◌≡◌, ℕ, ◌^◌, ◌≤◌, ◌⊎◌, Bool, List, [], Option, Some, None}
use Rattle.objects_payload.specs.bcder_tree.declared.mode.Mode.TheVariants.{Der}
use Rattle.objects_payload.specs.bcder_tree.Tags.{integer_tag, sequence_tag}
use Rattle.objects_payload.specs.bcder_tree.Tree.{Tree, Trees}
use Rattle.objects_payload.specs.bcder_primitive.Values.{IsUnsigned}
use Rattle.objects_payload.specs.bcder_content.Grammar.{OctetsOf, Inside, As, Where, Then, Opt, Many, End}
use Rattle.objects_payload.specs.resources_asn.Encodings.{IsAsId}
use Rattle.objects_payload.specs.resources_ip_prefix.declared.addr.AddressFamily.{AddressFamily}
use Rattle.objects_payload.specs.resources_ip_prefix.declared.addr.AddressFamily.TheVariants.{Ipv4, Ipv6}
use Rattle.objects_payload.specs.resources_ip_prefix.Family.{max_len_of}
use Rattle.objects_payload.specs.resources_ip_prefix.Encodings.{FirstBits, IsFamily, IsAddress}
use Rattle.objects_payload.specs.ObjectText.{Object}
use Rattle.objects_payload.specs.Contents.{VersionZero, ReadsAs}
use Rattle.objects_payload.specs.Identifiers as id

-- A prefix by its first address, of 128 bits, and its length; and the greatest length where one is given.
pub record RoaAddress : Type 0 where
  pub addr : ℕ
  pub len : ℕ
  pub max_len : Option ℕ

-- The greatest length lies between the prefix's and the address's (RFC 9582 4.3.2.2).
abbrev pub IsMaxLen : AddressFamily → ℕ → Option ℕ → Type 0
IsMaxLen family len None = Unit {0}
IsMaxLen family len (Some n) = (len ≤ n) × (n ≤ max_len_of family)

abbrev pub HasMaxLen : AddressFamily → RoaAddress → Type 0
HasMaxLen family a = IsMaxLen family a.len a.max_len

abbrev pub address_of : FirstBits × (Option ℕ × Unit {0}) → RoaAddress
address_of f = record { addr = f.0.addr; len = f.0.len; max_len = f.1.0 }

-- ROAIPAddress ::= SEQUENCE { address IPAddress, maxLength INTEGER OPTIONAL } (RFC 9582 4.3.2)
abbrev pub IsRoaAddress : AddressFamily → Tree → RoaAddress → Type 0
IsRoaAddress family = Where (As (Inside sequence_tag
    (Then (IsAddress Der family) (Opt integer_tag
    (OctetsOf integer_tag (IsUnsigned (2 ^ 8))) End))) address_of) (HasMaxLen family)

-- ROAIPAddressFamily ::= SEQUENCE { addressFamily OCTET STRING, addresses SEQUENCE OF ROAIPAddress } (RFC 9582 4.3)
pub record FamilyAddresses : Type 0 where
  pub family : AddressFamily
  pub addresses : List RoaAddress

pub record AreFamilyFields (ts : Trees) (x : FamilyAddresses) : Type 0 where
  pub are : Then (IsFamily Der) (Then (Inside sequence_tag (Many (IsRoaAddress x.family))) End) ts
      (x.family, (x.addresses, tt))

abbrev pub IsRoaFamily : Tree → FamilyAddresses → Type 0
IsRoaFamily = Inside sequence_tag AreFamilyFields

pub record Roa : Type 0 where
  pub asn : ℕ
  pub v4 : List RoaAddress
  pub v6 : List RoaAddress

-- One family, or both, each once, in any order (RFC 9582 4.3).
abbrev pub AreOf : FamilyAddresses → Option FamilyAddresses → List RoaAddress → List RoaAddress
    → Type 0
AreOf x None v4 v6 =
    ((x.family ≡ Ipv4) × (v4 ≡ x.addresses) × (v6 ≡ []))
    ⊎ ((x.family ≡ Ipv6) × (v4 ≡ []) × (v6 ≡ x.addresses))
AreOf x (Some y) v4 v6 =
    ((x.family ≡ Ipv4) × (y.family ≡ Ipv6) × (v4 ≡ x.addresses) × (v6 ≡ y.addresses))
    ⊎ ((x.family ≡ Ipv6) × (y.family ≡ Ipv4) × (v4 ≡ y.addresses) × (v6 ≡ x.addresses))

abbrev pub FamilyPair : Type 0
FamilyPair = FamilyAddresses × (Option FamilyAddresses × Unit {0})

pub record AreRoaFamilies (ts : Trees) (x : List RoaAddress × List RoaAddress) : Type 0 where
  pub families : FamilyPair
  pub are : Then IsRoaFamily (Opt sequence_tag IsRoaFamily End) ts families
  pub of : AreOf families.0 families.1.0 x.0 x.1

abbrev pub Fields : Type 0
Fields = Option (Unit {0} × Unit {0}) × (ℕ × ((List RoaAddress × List RoaAddress) × Unit {0}))

abbrev pub roa_of : Fields → Roa
roa_of f = record { asn = f.1.0; v4 = f.1.1.0.0; v6 = f.1.1.0.1 }

-- RouteOriginAttestation ::= SEQUENCE { version [0] INTEGER DEFAULT 0, asID ASID, ipAddrBlocks SEQUENCE SIZE (1..2) OF
-- ROAIPAddressFamily } (RFC 9582 4)
abbrev pub IsRoa : Tree → Roa → Type 0
IsRoa = As (Inside sequence_tag (VersionZero (Then IsAsId
    (Then (Inside sequence_tag AreRoaFamilies) End)))) roa_of

-- A signed object that is a route origin attestation (RFC 9582 3).
abbrev pub RoaText : Bool → List ℕ → Object → Roa → Type 0
RoaText = ReadsAs id.route_origin IsRoa
