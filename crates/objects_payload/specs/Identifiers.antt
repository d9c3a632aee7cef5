-- Object identifiers of signed objects, by their content octets (X.690 8.19), and algorithms.
use Rattle.std.specs.Prelude.{ℕ, Bool, List, [], ◌∷◌, ◌++◌, Option}
use Rattle.objects_payload.specs.bcder_tree.Tags.{oid_tag, sequence_tag}
use Rattle.objects_payload.specs.bcder_tree.Tree.{Tree, Trees}
use Rattle.objects_payload.specs.bcder.Identifiers.{AreOctets}
use Rattle.objects_payload.specs.certs_basics.Identifiers.{rsa_encryption, sha256_with_rsa}
use Rattle.objects_payload.specs.certs_basics.Basics.{OptNull, is_there}
use Rattle.objects_payload.specs.bcder_content.Grammar.{OctetsOf, Inside, As, OneOf, Then}

-- 1.2.840.113549.1
abbrev pub rsadsi : List ℕ
rsadsi = 42 ∷ 134 ∷ 72 ∷ 134 ∷ 247 ∷ 13 ∷ 1 ∷ []

-- id-signedData (RFC 5652 5.1)
abbrev pub signed_data : List ℕ
signed_data = rsadsi ++ 7 ∷ 2 ∷ []

-- id-contentType, id-messageDigest, id-signingTime (RFC 5652 11); id-aa-binarySigningTime (RFC 6019 3)
abbrev pub content_type : List ℕ
content_type = rsadsi ++ 9 ∷ 3 ∷ []

abbrev pub message_digest : List ℕ
message_digest = rsadsi ++ 9 ∷ 4 ∷ []

abbrev pub signing_time : List ℕ
signing_time = rsadsi ++ 9 ∷ 5 ∷ []

abbrev pub binary_signing_time : List ℕ
binary_signing_time = rsadsi ++ 9 ∷ 16 ∷ 2 ∷ 46 ∷ []

-- id-ct-routeOriginAuthz (RFC 9582 3), id-ct-rpkiManifest (RFC 9286 4.1), id-ct-ASPA
abbrev pub route_origin : List ℕ
route_origin = rsadsi ++ 9 ∷ 16 ∷ 1 ∷ 24 ∷ []

abbrev pub manifest : List ℕ
manifest = rsadsi ++ 9 ∷ 16 ∷ 1 ∷ 26 ∷ []

abbrev pub provider_authorization : List ℕ
provider_authorization = rsadsi ++ 9 ∷ 16 ∷ 1 ∷ 49 ∷ []

-- id-sha256 (RFC 5754 2.2)
abbrev pub sha256 : List ℕ
sha256 = 96 ∷ 134 ∷ 72 ∷ 1 ∷ 101 ∷ 3 ∷ 4 ∷ 2 ∷ 1 ∷ []

-- That object identifier.
abbrev pub TheOid : List ℕ → Tree → Unit {0} → Type 0
TheOid octets = OctetsOf oid_tag (AreOctets octets)

-- SEQUENCE { that identifier, NULL OPTIONAL }
abbrev pub AlgorithmFields : Type 0
AlgorithmFields = Unit {0} × (Option (Unit {0}) × Unit {0})

abbrev pub AreAlgorithm : List ℕ → Trees → AlgorithmFields → Type 0
AreAlgorithm octets = Then (TheOid octets) OptNull

abbrev pub has_null : AlgorithmFields → Bool
has_null f = is_there f.1.0

-- Whether NULL is there.
abbrev pub IsAlgorithm : List ℕ → Tree → Bool → Type 0
IsAlgorithm octets = As (Inside sequence_tag (AreAlgorithm octets)) has_null

-- DigestAlgorithmIdentifier: SHA-256, NULL there or not (RFC 5754 2).
abbrev pub any_null : Bool → Unit {0}
any_null b = tt

abbrev pub IsDigestAlgorithm : Tree → Unit {0} → Type 0
IsDigestAlgorithm = As (IsAlgorithm sha256) any_null

-- SignatureAlgorithmIdentifier: rsaEncryption or sha256WithRSAEncryption (RFC 7935 2, RFC 6488 2.1.6.5).
abbrev pub IsSignatureAlgorithm : Tree → Bool → Type 0
IsSignatureAlgorithm = OneOf (IsAlgorithm rsa_encryption) (IsAlgorithm sha256_with_rsa)
