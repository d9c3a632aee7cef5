-- Addresses of route origin attestations in an encoding of any mode, and what contracts see of them (RFC 9582 4.3.2).
use Rattle.std.specs.Prelude.{◌≡◌, ℕ, ◌^◌, ◌≤◌, List, [], ◌∷◌, ◌++◌, Option}
use Rattle.std.specs.declared.net.ip_addr.IpAddr.{IpAddr}
use Rattle.std.specs.declared.net.ip_addr.IpAddr.TheVariants.{V4, V6}
use Rattle.objects_payload.specs.bcder_tree.declared.mode.Mode.{Mode}
use Rattle.objects_payload.specs.bcder_tree.Tags.{integer_tag, sequence_tag}
use Rattle.objects_payload.specs.bcder_tree.Tree.{Tree, Trees}
use Rattle.objects_payload.specs.bcder_primitive.Values.{IsUnsigned}
use Rattle.objects_payload.specs.bcder_content.Grammar.{As, End, Inside, Many, OctetsOf, Opt, Where, Then}
use Rattle.objects_payload.specs.resources_ip_prefix.AddrPrefixes.{bits_of, family_of}
use Rattle.objects_payload.specs.resources_ip_prefix.Prefixes.{first_of}
use Rattle.objects_payload.specs.resources_ip_prefix.Wide.{widened}
use Rattle.objects_payload.specs.resources_ip_prefix.declared.addr.AddressFamily.{AddressFamily}
use Rattle.objects_payload.specs.resources_ip_prefix.Encodings.{FirstBits, IsAddress, prefix_bits}
use Rattle.objects_payload.specs.resources_ip_prefix.Family.{max_len_of}
use Rattle.objects_payload.specs.Roas.{HasMaxLen, Roa, RoaAddress, address_of}
use Rattle.objects_payload.specs.declared.roa.address.RoaIpAddress.{RoaIpAddress}

-- SEQUENCE { address IPAddress, maxLength INTEGER OPTIONAL }
abbrev pub AddressFields : Type 0
AddressFields = FirstBits × (Option ℕ × Unit {0})

abbrev pub AreAddressFields : AddressFamily → Mode → Trees → AddressFields → Type 0
AreAddressFields family m =
    Then (IsAddress m family) (Opt integer_tag (OctetsOf integer_tag (IsUnsigned (2 ^ 8))) End)

abbrev pub IsAddressOf : AddressFamily → Mode → Tree → RoaAddress → Type 0
IsAddressOf family m =
    Where (As (Inside sequence_tag (AreAddressFields family m)) address_of) (HasMaxLen family)

-- An address of the family, by its fields.
pub record AreAddress (family : AddressFamily) (m : Mode) (ts : Trees) (a : RoaAddress)
    : Type 0 where
  pub fields : AddressFields
  pub are : AreAddressFields family m ts fields
  pub means : a ≡ address_of fields
  pub has_max : HasMaxLen family a

-- SEQUENCE OF ROAIPAddress, by its values
abbrev pub AreAddresses : AddressFamily → Mode → Trees → List RoaAddress → Type 0
AreAddresses family m = Many (IsAddressOf family m)

-- What contracts see of an address.
abbrev pub address_fields : RoaIpAddress → AddressFields
address_fields a = (prefix_bits a.prefix, (a.max_length, tt))

abbrev pub roa_address : RoaIpAddress → RoaAddress
roa_address a = address_of (address_fields a)

-- The prefix of an address's first bits, with a greatest length where one is given.
abbrev pub address_from : IpAddr → ℕ → Option ℕ → RoaAddress
address_from ip len most =
    record { addr = first_of len (widened (family_of ip) (bits_of ip)); len = len; max_len = most }

-- A content with one address more of the family of an IP address.
abbrev pub with_address : Roa → IpAddr → RoaAddress → Roa
with_address r (V4 ip) a = record { asn = r.asn; v4 = r.v4 ++ a ∷ []; v6 = r.v6 }
with_address r (V6 ip) a = record { asn = r.asn; v4 = r.v4; v6 = r.v6 ++ a ∷ [] }

-- An address of the family: neither length is above that of the family's addresses.
pub record IsOf (family : AddressFamily) (a : RoaAddress) : Type 0 where
  pub len : a.len ≤ max_len_of family
  pub max_len : HasMaxLen family a

abbrev pub AllOf : AddressFamily → List RoaAddress → Type 0
AllOf family [] = Unit {0}
AllOf family (a ∷ others) = IsOf family a × AllOf family others
