-- Algorithms of signatures and digests (RFC 5280 4.1.1.2, RFC 5652 10.1, RFC 7935 2).
use Rattle.std.specs.Prelude.{◌≡◌, ◌⊎◌, ℕ, Bool, true, false, List, [], ◌∷◌, Option, Some, None}
use Rattle.certs_key.specs.bcder_tree.Tags.{TagValue, universal, sequence_tag, set_tag}
use Rattle.certs_key.specs.bcder_tree.Tree.{Tree, Trees}
use Rattle.certs_key.specs.bcder_content.Grammar.{Inside, OctetsOf, As, OneOf, Then, End}
use Rattle.certs_key.specs.bcder_octets.Bits.{BitsValue}
use Rattle.certs_key.specs.bcder.Identifiers.{AreOctets}
use Rattle.certs_key.specs.bcder_values.Forms.{Form, Forms, both, ended, last, mapped, wrapped}
use Rattle.certs_key.specs.bcder_values.OptionalForms.{last_maybe}
use Rattle.certs_key.specs.bcder.Kinds.{null, null_at, that_oid, that_oid_at}
use Rattle.certs_key.specs.certs_basics.Basics.{OptNull, has_null}
use Rattle.certs_key.specs.certs_basics.Identifiers.{rsa_encryption, sha256_with_rsa}

-- id-sha256, 2.16.840.1.101.3.4.2.1 (RFC 5754 2.2)
abbrev pub sha256 : List ℕ
sha256 = 96 ∷ 134 ∷ 72 ∷ 1 ∷ 101 ∷ 3 ∷ 4 ∷ 2 ∷ 1 ∷ []

-- The fields of an algorithm: its identifier, which is given, and NULL or nothing.
abbrev pub Fields : Type 0
Fields = Unit {0} × (Option (Unit {0}) × Unit {0})

-- AlgorithmIdentifier ::= SEQUENCE { algorithm OBJECT IDENTIFIER, parameters NULL OPTIONAL } with that identifier; it
-- means whether NULL is there.
abbrev pub AreFields : List ℕ → Trees → Fields → Type 0
AreFields kind = Then (OctetsOf (universal 6) (AreOctets kind)) OptNull

abbrev pub IsAlgorithmOf : List ℕ → Tree → Bool → Type 0
IsAlgorithmOf kind = As (Inside sequence_tag (AreFields kind)) has_null

-- AlgorithmIdentifier as a form, by which it is written too.
abbrev pub null_if : Bool → Option (Unit {0})
null_if true = Some tt
null_if false = None

abbrev pub fields_of : Bool → Fields
fields_of b = (tt, (null_if b, tt))

abbrev pub algorithm_fields : List ℕ → Forms Fields
algorithm_fields kind = both (that_oid kind) (last_maybe (universal 5) null)

abbrev pub algorithm_of : List ℕ → Form Bool
algorithm_of kind = mapped has_null fields_of (wrapped sequence_tag (algorithm_fields kind))

-- signatureAlgorithm of certificates and lists: sha256WithRSAEncryption (RFC 5280 4.1.1.2, RFC 7935 2)
abbrev pub x509_algorithm : Form Bool
x509_algorithm = algorithm_of sha256_with_rsa

-- SignatureAlgorithmIdentifier of signed objects: rsaEncryption or sha256WithRSAEncryption (RFC 7935 2)
abbrev pub IsCmsAlgorithm : Tree → Bool → Type 0
IsCmsAlgorithm = OneOf (IsAlgorithmOf rsa_encryption) (IsAlgorithmOf sha256_with_rsa)

-- The content octets of one of the two identifiers.
pub record NamesSignature (content : List ℕ) (x : Unit {0}) : Type 0 where
  pub names : (content ≡ rsa_encryption) ⊎ (content ≡ sha256_with_rsa)

-- The fields with either identifier.
abbrev pub AreCmsFields : Trees → Fields → Type 0
AreCmsFields = Then (OctetsOf (universal 6) NamesSignature) OptNull

-- DigestAlgorithmIdentifier: SHA-256, NULL there or not (RFC 5754 2)
abbrev pub whatever : Bool → Unit {0}
whatever b = tt

abbrev pub IsDigestAlgorithm : Tree → Unit {0} → Type 0
IsDigestAlgorithm = As (IsAlgorithmOf sha256) whatever

-- DigestAlgorithmIdentifiers ::= SET OF DigestAlgorithmIdentifier, of one (RFC 5652 5.1, RFC 6488 2.1.2)
abbrev pub AreDigestAlgorithms : Tree → Unit {0} × Unit {0} → Type 0
AreDigestAlgorithms = Inside set_tag (Then IsDigestAlgorithm End)

-- SHA-256 is written without NULL (RFC 5754 2).
abbrev pub without_null : Unit {0} → Bool
without_null x = false

abbrev pub digest_algorithm : Form (Unit {0})
digest_algorithm = mapped whatever without_null (algorithm_of sha256)

abbrev pub digest_algorithms : Form (Unit {0} × Unit {0})
digest_algorithms = wrapped set_tag (last digest_algorithm)

-- An algorithm's identifier by its octets, and whether NULL is there: what is written of it.
pub record AlgorithmValue : Type 0 where
  pub kind : List ℕ
  pub has_null : Bool

-- A signature, and the algorithm that made it.
pub record SignatureValue (A : Type 0) : Type 0 where
  pub algorithm : A
  pub bits : BitsValue

-- The tags of encoders and the identifier's octets, as they are lent: with NULL, and without.
abbrev pub NullLent : Type 0
NullLent = (TagValue × (TagValue × (TagValue × List ℕ))) × (Unit {0} × (Unit {0} × Unit {0}))

abbrev pub null_lent : NullLent → Form (Unit {0} × (Unit {0} × Unit {0}))
null_lent l = wrapped l.0.0 (both (that_oid_at l.0.1.1.1 l.0.1.0) (last (null_at l.0.1.1.0)))

abbrev pub lends_null : TagValue → TagValue → TagValue → List ℕ → NullLent
lends_null tag oid_tag null_tag octets = ((tag, (oid_tag, (null_tag, octets))), (tt, (tt, tt)))

abbrev pub BareLent : Type 0
BareLent = (TagValue × (TagValue × List ℕ)) × (Unit {0} × Unit {0})

abbrev pub bare_lent : BareLent → Form (Unit {0} × Unit {0})
bare_lent l = wrapped l.0.0 (both (that_oid_at l.0.1.1 l.0.1.0) ended)

abbrev pub lends_bare : TagValue → TagValue → List ℕ → BareLent
lends_bare tag oid_tag octets = ((tag, (oid_tag, octets)), (tt, tt))
