-- That a value has one meaning, as a family and as an address (RFC 3779 2.2.3.3, 2.2.3.8).
use Rattle.std.proofs.Common.{◌≡◌, refl}
use Rattle.resources_ip_prefix.specs.bcder_tree.declared.mode.Mode.{Mode}
use Rattle.resources_ip_prefix.specs.bcder_tree.Strings.{octet_string_tag}
use Rattle.resources_ip_prefix.specs.bcder_content.Grammar.{One}
use Rattle.bcder.proofs.of_bcder_octets.BitReadings.{bit_string_one}
use Rattle.bcder.proofs.of_bcder_content.Unique.{as_one, octets_one, such_one}
use Rattle.bcder.proofs.of_bcder_octets.Meaning.{one_string}
use Rattle.resources_ip_prefix.specs.declared.addr.AddressFamily.{AddressFamily}
use Rattle.resources_ip_prefix.specs.declared.addr.AddressFamily.TheVariants.{Ipv4, Ipv6}
use Rattle.resources_ip_prefix.specs.Encodings.{IsAddress, IsFamily, family_octets}

-- The octets of a family tell it.
same_family : (f g : AddressFamily) → family_octets f ≡ family_octets g → f ≡ g
same_family Ipv4 Ipv4 e = refl
same_family Ipv6 Ipv6 e = refl
same_family Ipv4 Ipv6 e = absurd cc
same_family Ipv6 Ipv4 e = absurd cc

-- A value is of one family.
pub family_one : {m : Mode} → One (IsFamily m)
family_one {m} = record {
  one = λ t f g p q. same_family f g
      (one_string m octet_string_tag t (family_octets f) (family_octets g) p.is q.is);
}

-- A value states one address of a family.
pub address_one : {m : Mode} (family : AddressFamily) → One (IsAddress m family)
address_one family = as_one (such_one (octets_one bit_string_one))
