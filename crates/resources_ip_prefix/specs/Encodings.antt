-- Addresses and families in an encoding (RFC 3779 2.2.3).
use Rattle.std.specs.Prelude.{◌≡◌, ℕ, zero, suc, ◌+◌, ◌*◌, ◌^◌, ◌≤◌, List, [], ◌∷◌, length}
use Rattle.resources_ip_prefix.specs.bcder_tree.declared.mode.Mode.{Mode}
use Rattle.resources_ip_prefix.specs.bcder_tree.Tags.{TagValue}
use Rattle.resources_ip_prefix.specs.bcder_tree.Strings.{IsString, octet_string_tag}
use Rattle.resources_ip_prefix.specs.bcder_tree.Tree.{Tree}
use Rattle.resources_ip_prefix.specs.bcder_octets.Bits.{BitsValue, IsBits, bits}
use Rattle.resources_ip_prefix.specs.bcder_octets.BitContents.{IsBitString, IsPadded, bit_string_tag}
use Rattle.resources_ip_prefix.specs.bcder_content.Grammar.{As, OctetsOf, Where}
use Rattle.resources_ip_prefix.specs.declared.addr.AddressFamily.{AddressFamily}
use Rattle.resources_ip_prefix.specs.declared.addr.AddressFamily.TheVariants.{Ipv4, Ipv6}
use Rattle.resources_ip_prefix.specs.declared.prefix.Prefix.{Prefix}
use Rattle.resources_ip_prefix.specs.Address.{bits_of}
use Rattle.resources_ip_prefix.specs.Family.{max_len_of}
use Rattle.resources_ip_prefix.specs.Prefix.{prefix_addr, prefix_len}
use Rattle.resources_ip_prefix.specs.Prefixes.{first_of}

-- addressFamily OCTET STRING (2.2.3.3): the number of the family in two octets; RPKI has no third one for a SAFI
-- (RFC 6487 4.8.10).
abbrev pub family_octets : AddressFamily → List ℕ
family_octets Ipv4 = 0 ∷ 1 ∷ []
family_octets Ipv6 = 0 ∷ 2 ∷ []

-- With that tag, its own or an implicit one.
pub record IsFamilyIn (m : Mode) (tag : TagValue) (t : Tree) (family : AddressFamily) : Type 0 where
  pub is : IsString m tag t (family_octets family)

abbrev pub IsFamily : Mode → Tree → AddressFamily → Type 0
IsFamily m = IsFamilyIn m octet_string_tag

-- The number of so many octets, the most significant first: these, and zeros after them.
abbrev pub filled : ℕ → List ℕ → ℕ
filled zero v = 0
filled (suc count) [] = 0
filled (suc count) (a ∷ v) = a * 256 ^ count + filled count v

-- The first bits of addresses: how many, and the address that has zeros after them (2.1.1).
pub record FirstBits : Type 0 where
  pub addr : ℕ
  pub len : ℕ

-- Those that a string of at most 128 bits states: its own.
abbrev pub told_by : BitsValue → FirstBits
told_by v = record { addr = first_of (length (bits v)) (filled 16 v.octets); len = length (bits v) }

-- An address of the family has as many bits.
abbrev pub FitsFamily : AddressFamily → BitsValue → Type 0
FitsFamily family v = length (bits v) ≤ max_len_of family

-- IPAddress ::= BIT STRING (2.2.3.8), with that tag.
abbrev pub IsAddressIn : AddressFamily → Mode → TagValue → Tree → FirstBits → Type 0
IsAddressIn family m tag = As (Where (OctetsOf tag (IsBitString m)) (FitsFamily family)) told_by

abbrev pub IsAddress : Mode → AddressFamily → Tree → FirstBits → Type 0
IsAddress m family = IsAddressIn family m bit_string_tag

-- So many bits at the end of octets may be unused, with the values that they have (X.690 8.6.2, 11.2.1).
pub record AreUnused (m : Mode) (unused : ℕ) (octets : List ℕ) : Type 0 where
  pub lawful : IsBits (record { unused = unused; octets = octets })
  pub padded : IsPadded m (record { unused = unused; octets = octets })

-- The content octets of such a BIT STRING, by the address that they state.
pub record AreAddressOctets (family : AddressFamily) (m : Mode) (content : List ℕ) (b : FirstBits)
    : Type 0 where
  pub value : BitsValue
  pub is : IsBitString m content value
  pub fits : FitsFamily family value
  pub means : b ≡ told_by value

-- A prefix, by its bits.
abbrev pub prefix_bits : Prefix → FirstBits
prefix_bits p = record { addr = bits_of (prefix_addr p); len = prefix_len p }

-- Any family.
pub record IsAnyFamily (m : Mode) (t : Tree) (x : Unit {0}) : Type 0 where
  pub family : AddressFamily
  pub is : IsFamily m t family
