-- Serial numbers, algorithms and key identifiers (RFC 5280 4.1).
use Rattle.std.specs.Prelude.{◌≡◌, ℕ, ◌<◌, ◌^◌, Bool, true, false, List, Option, Some, None, length}
use Rattle.certs_basics.specs.bcder_tree.declared.mode.Mode.{Mode}
use Rattle.certs_basics.specs.bcder_tree.Tags.{TagValue, integer_tag, null_tag, oid_tag, sequence_tag}
use Rattle.certs_basics.specs.bcder_tree.Tree.{Tree, Trees}
use Rattle.certs_basics.specs.bcder_tree.Strings.{IsString}
use Rattle.certs_basics.specs.bcder_primitive.Values.{IsNull}
use Rattle.certs_basics.specs.bcder_content.Grammar.{Inside, OctetsOf, Where, As, Then, Opt, End}
use Rattle.certs_basics.specs.bcder_number.Integers.{IsNatural}
use Rattle.certs_basics.specs.bcder.Identifiers.{AreOctets}
use Rattle.certs_basics.specs.Identifiers.{sha256_with_rsa}

-- CertificateSerialNumber ::= INTEGER, not negative and below 2^160 (RFC 5280 4.1.2.2)
abbrev pub IsSmallEnough : ℕ → Type 0
IsSmallEnough n = n < 2 ^ 160

abbrev pub IsSerial : Tree → ℕ → Type 0
IsSerial = Where (OctetsOf integer_tag IsNatural) IsSmallEnough

-- NULL OPTIONAL, at the end: whether it is there.
abbrev pub OptNull : Trees → Option (Unit {0}) × Unit {0} → Type 0
OptNull = Opt null_tag (OctetsOf null_tag IsNull) End

abbrev pub is_there : Option (Unit {0}) → Bool
is_there None = false
is_there (Some x) = true

-- AlgorithmIdentifier ::= SEQUENCE { algorithm OBJECT IDENTIFIER, parameters NULL OPTIONAL } with
-- sha256WithRSAEncryption; it means whether NULL is there (RFC 5280 4.1.1.2, RFC 7935 2).
abbrev pub IsAlgorithmBody : Trees → Unit {0} × (Option (Unit {0}) × Unit {0}) → Type 0
IsAlgorithmBody = Then (OctetsOf oid_tag (AreOctets sha256_with_rsa)) OptNull

abbrev pub has_null : Unit {0} × (Option (Unit {0}) × Unit {0}) → Bool
has_null x = is_there x.1.0

abbrev pub IsAlgorithm : Tree → Bool → Type 0
IsAlgorithm = As (Inside sequence_tag IsAlgorithmBody) has_null

-- KeyIdentifier ::= OCTET STRING, of 20 octets, with its own tag or another (RFC 6487 4.8.2, 4.8.3)
abbrev pub IsTwentyLong : List ℕ → Type 0
IsTwentyLong octets = length octets ≡ 20

abbrev pub IsKeyIdentifier : Mode → TagValue → Tree → List ℕ → Type 0
IsKeyIdentifier m tag = Where (IsString m tag) IsTwentyLong
