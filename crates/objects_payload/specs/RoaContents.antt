-- Contents of route origin attestations in an encoding of any mode (RFC 9582 4).
use Rattle.std.specs.Prelude.{◌≡◌, Option}
use Rattle.std.specs.Option.{option_map}
use Rattle.objects_payload.specs.bcder_tree.declared.mode.Mode.{Mode}
use Rattle.objects_payload.specs.bcder_tree.Tags.{sequence_tag}
use Rattle.objects_payload.specs.bcder_tree.Tree.{Tree, Trees}
use Rattle.objects_payload.specs.bcder_content.Grammar.{End, Inside, Then}
use Rattle.objects_payload.specs.certs_extension.CertText.{IsVersion as IsInteger}
use Rattle.objects_payload.specs.resources_asn.Encodings.{IsAsId}
use Rattle.objects_payload.specs.resources_asn.declared.asn.Asn.{Asn}
use Rattle.objects_payload.specs.Contents.{VersionZero}
use Rattle.objects_payload.specs.Roas.{Fields, Roa, roa_of}
use Rattle.objects_payload.specs.declared.roa.families.Families.{Families}
use Rattle.objects_payload.specs.Families.{AreFamilies, both_families}
use Rattle.objects_payload.specs.Fields.{alone}

-- The content of version [0] INTEGER (0)
abbrev pub AreNumber : Mode → Trees → Unit {0} × Unit {0} → Type 0
AreNumber m = Then (IsInteger 0) End

-- SEQUENCE { version [0] INTEGER DEFAULT 0, asID ASID, ipAddrBlocks SEQUENCE SIZE (1..2) OF ROAIPAddressFamily }, by its
-- values, and what they say
abbrev pub AreRoaFields : Mode → Trees → Fields → Type 0
AreRoaFields m = VersionZero (Then IsAsId (Then (Inside sequence_tag (AreFamilies m)) End))

pub record AreRoa (m : Mode) (ts : Trees) (r : Roa) : Type 0 where
  pub fields : Fields
  pub are : AreRoaFields m ts fields
  pub means : r ≡ roa_of fields

abbrev pub IsRoaIn : Mode → Tree → Roa → Type 0
IsRoaIn m = Inside sequence_tag (AreRoa m)

abbrev pub parts_fields : Option (Unit {0}) × Asn × Families → Fields
parts_fields p = (option_map alone p.0, (p.1.value, (both_families p.2, tt)))
