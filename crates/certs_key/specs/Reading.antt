-- The parts of a key as they are read.
use Rattle.certs_key.specs.bcder_tree.declared.mode.Mode.{Mode}
use Rattle.certs_key.specs.bcder_tree.Tags.{sequence_tag}
use Rattle.certs_key.specs.bcder_tree.Tree.{Tree, Trees}
use Rattle.certs_key.specs.bcder_content.Grammar.{Inside, OctetsOf, Then, End}
use Rattle.certs_key.specs.bcder_content.Kept.{CapturedValue}
use Rattle.certs_key.specs.bcder_octets.Bits.{BitsValue}
use Rattle.certs_key.specs.bcder_octets.BitContents.{IsBitString, bit_string_tag}
use Rattle.certs_key.specs.certs_basics.declared.PublicKeyFormat.{PublicKeyFormat}
use Rattle.certs_key.specs.certs_basics.Keys.{IsFormat}

-- The algorithm, and the bits.
abbrev pub Parts : Type 0
Parts = PublicKeyFormat × (BitsValue × Unit {0})

abbrev pub parts_fields : PublicKeyFormat × BitsValue → Parts
parts_fields x = (x.0, (x.1, tt))

abbrev pub AreParts : Mode → Trees → Parts → Type 0
AreParts m = Then IsFormat (Then (OctetsOf bit_string_tag (IsBitString m)) End)

-- SubjectPublicKeyInfo ::= SEQUENCE { algorithm AlgorithmIdentifier, subjectPublicKey BIT STRING } (RFC 5280 4.1), of any
-- length.
abbrev pub IsParts : Mode → Tree → Parts → Type 0
IsParts m = Inside sequence_tag (AreParts m)

-- The octets that were read, and the parts.
abbrev pub kept_parts : CapturedValue × (PublicKeyFormat × BitsValue) → CapturedValue × Parts
kept_parts x = (x.0, parts_fields x.1)
