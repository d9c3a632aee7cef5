-- Families of addresses in an encoding of any mode (RFC 9582 4.3).
use Rattle.std.specs.Prelude.{List, Option}
use Rattle.std.specs.Option.{option_map}
use Rattle.objects_payload.specs.bcder_tree.declared.mode.Mode.{Mode}
use Rattle.objects_payload.specs.bcder_tree.Tags.{sequence_tag}
use Rattle.objects_payload.specs.bcder_tree.Tree.{Tree, Trees}
use Rattle.objects_payload.specs.bcder_content.Grammar.{End, Inside, Opt, Then}
use Rattle.objects_payload.specs.resources_ip_prefix.Encodings.{IsFamily}
use Rattle.objects_payload.specs.Roas.{AreOf, FamilyAddresses, FamilyPair, RoaAddress}
use Rattle.objects_payload.specs.declared.roa.families.Families.{Families}
use Rattle.objects_payload.specs.declared.roa.families.RoaIpAddressFamily.{RoaIpAddressFamily}
use Rattle.objects_payload.specs.Addresses.{AreAddresses}

-- SEQUENCE { addressFamily OCTET STRING, addresses SEQUENCE OF ROAIPAddress }, by its values
pub record AreFamilyIn (m : Mode) (ts : Trees) (x : FamilyAddresses) : Type 0 where
  pub are : Then (IsFamily m) (Then (Inside sequence_tag (AreAddresses x.family m)) End) ts
      (x.family, (x.addresses, tt))

abbrev pub IsFamilyOf : Mode → Tree → FamilyAddresses → Type 0
IsFamilyOf m = Inside sequence_tag (AreFamilyIn m)

-- SEQUENCE SIZE (1..2) OF ROAIPAddressFamily, by its values: one family, or both, each once
abbrev pub ArePair : Mode → Trees → FamilyPair → Type 0
ArePair m = Then (IsFamilyOf m) (Opt sequence_tag (IsFamilyOf m) End)

pub record AreFamilies (m : Mode) (ts : Trees) (x : List RoaAddress × List RoaAddress)
    : Type 0 where
  pub families : FamilyPair
  pub are : ArePair m ts families
  pub of : AreOf families.0 families.1.0 x.0 x.1

-- What is read, as the grammars name it.
abbrev pub family_value : RoaIpAddressFamily → FamilyAddresses
family_value f = record { family = f.family; addresses = f.addresses }

abbrev pub pair_value : RoaIpAddressFamily × Option RoaIpAddressFamily → FamilyPair
pair_value p = (family_value p.0, (option_map family_value p.1, tt))

abbrev pub both_families : Families → List RoaAddress × List RoaAddress
both_families f = (f.v4, f.v6)
