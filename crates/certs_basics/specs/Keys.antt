-- Public keys, their encoded octets and their identifiers (RFC 5280 4.1.2.7, RFC 7935 3, RFC 8608 3.1).
use Rattle.std.specs.Prelude.{◌≡◌, ℕ, ◌/◌, ◌%◌, List, [], ◌∷◌, ◌++◌, length, if◌then◌else◌, nat_lt}
use Rattle.certs_basics.specs.bcder_tree.declared.mode.Mode.{Mode}
use Rattle.certs_basics.specs.bcder_tree.declared.mode.Mode.TheVariants.{Der}
use Rattle.certs_basics.specs.bcder_tree.Tags.{null_tag, oid_tag, sequence_tag}
use Rattle.certs_basics.specs.bcder_tree.Tree.{Tree, Trees, primitive, Spells}
use Rattle.certs_basics.specs.bcder_tree.Sequences.{sequence}
use Rattle.certs_basics.specs.bcder_content.Grammar.{Inside, OctetsOf, Then, End}
use Rattle.certs_basics.specs.bcder_octets.Bits.{BitsValue}
use Rattle.certs_basics.specs.bcder_octets.BitContents.{IsBitString, bit_string_tag, cleared}
use Rattle.certs_basics.specs.bcder.Identifiers.{AreOctets, IsOid}
use Rattle.certs_basics.specs.declared.PublicKeyFormat.{PublicKeyFormat}
use Rattle.certs_basics.specs.declared.PublicKeyFormat.TheVariants.{Rsa, Ecdsa}
use Rattle.certs_basics.specs.bcder_content.Words.{ThenBy}
use Rattle.certs_basics.specs.HandedIn.{Digests}
use Rattle.certs_basics.specs.Basics.{OptNull}
use Rattle.certs_basics.specs.Identifiers.{rsa_encryption, ec_public_key, secp256r1}

-- A key: its format, and its bits as they were spelled.
pub record KeyValue : Type 0 where
  pub format : PublicKeyFormat
  pub bits : BitsValue

-- What comes after the identifier of the algorithm: of RSA NULL or nothing, of ECDSA the curve.
abbrev pub kind_of : PublicKeyFormat → List ℕ
kind_of Rsa = rsa_encryption
kind_of Ecdsa = ec_public_key

pub data AreParameters : PublicKeyFormat → Trees → Type 0 where
  of_rsa : {ts : Trees} {x : _} → OptNull ts x → AreParameters Rsa ts
  of_ecdsa : {ts : Trees} {x : _} → Then (OctetsOf oid_tag (AreOctets secp256r1)) End ts x
      → AreParameters Ecdsa ts

-- AlgorithmIdentifier ::= SEQUENCE { algorithm OBJECT IDENTIFIER, parameters ANY DEFINED BY algorithm }
pub record IsFormatBody (ts : Trees) (format : PublicKeyFormat) : Type 0 where
  pub are : ThenBy (OctetsOf oid_tag IsOid) (λ kind us x. (kind ≡ kind_of x)
      × AreParameters x us) ts (kind_of format, format)

abbrev pub IsFormat : Tree → PublicKeyFormat → Type 0
IsFormat = Inside sequence_tag IsFormatBody

-- The key as a value in DER, with NULL after rsaEncryption and zeros for unused bits (RFC 7935 3.1, X.690 11.2.1).
abbrev pub format_tree : PublicKeyFormat → Tree
format_tree Rsa = sequence (primitive oid_tag rsa_encryption ∷ primitive null_tag [] ∷ [])
format_tree Ecdsa = sequence (primitive oid_tag ec_public_key ∷ primitive oid_tag secp256r1 ∷ [])

abbrev pub key_tree : KeyValue → Tree
key_tree k = sequence (format_tree k.format ∷ primitive bit_string_tag
    (k.bits.unused ∷ cleared k.bits.unused k.bits.octets) ∷ [])

-- Its encoded octets; a value has one spelling in DER.
abbrev pub Encodes : KeyValue → List ℕ → Type 0
Encodes k octets = Spells Der (key_tree k) octets

-- It has encoded octets: of what they hold none is longer than 2^32 - 1 octets, the most that a length states.
pub record HasEncoding (k : KeyValue) : Type 0 where
  pub octets : List ℕ
  pub encodes : Encodes k octets

-- SubjectPublicKeyInfo ::= SEQUENCE { algorithm AlgorithmIdentifier, subjectPublicKey BIT STRING } (RFC 5280 4.1), of a
-- key that has encoded octets.
pub record IsKeyBody (m : Mode) (ts : Trees) (k : KeyValue) : Type 0 where
  pub are : Then IsFormat (Then (OctetsOf bit_string_tag (IsBitString m)) End) ts
      (k.format, (k.bits, tt))
  pub has : HasEncoding k

abbrev pub IsKey : Mode → Tree → KeyValue → Type 0
IsKey m = Inside sequence_tag (IsKeyBody m)

-- The encoded octets as a function, for lengths below 2^32 (X.690 8.1.3, 10.1).
abbrev pub der_length : ℕ → List ℕ
der_length n =
    if nat_lt n 128 then n ∷ []
    else (if nat_lt n 256 then 129 ∷ n ∷ []
    else (if nat_lt n 65536 then 130 ∷ n / 256 ∷ n % 256 ∷ []
    else (if nat_lt n 16777216 then 131 ∷ n / 65536 ∷ n / 256 % 256 ∷ n % 256 ∷ []
    else 132 ∷ n / 16777216 ∷ n / 65536 % 256 ∷ n / 256 % 256 ∷ n % 256 ∷ [])))

abbrev pub der : ℕ → List ℕ → List ℕ
der identifier content = identifier ∷ der_length (length content) ++ content

abbrev pub encoded_format : PublicKeyFormat → List ℕ
encoded_format Rsa = der 48 (der 6 rsa_encryption ++ der 5 [])
encoded_format Ecdsa = der 48 (der 6 ec_public_key ++ der 6 secp256r1)

abbrev pub encoded : KeyValue → List ℕ
encoded k =
    der 48 (encoded_format k.format ++ der 3 (k.bits.unused ∷ cleared k.bits.unused k.bits.octets))

-- The SHA-1 digest of the bits' octets, without the count of unused bits (RFC 6487 4.8.2).
abbrev pub identifier : Digests → KeyValue → List ℕ
identifier d k = d.sha1 k.bits.octets
