-- What is written of a signed object (RFC 5652 3, 5; RFC 6488 2).
use Rattle.std.specs.Prelude.{◌≡◌, ℕ, List, Some, None, true, false}
use Rattle.objects_written.specs.bcder_tree.declared.mode.Mode.TheVariants.{Der}
use Rattle.objects_written.specs.bcder_tree.Tags.{context, sequence_tag, set_tag}
use Rattle.objects_written.specs.bcder_content.Kept.{CapturedValue}
use Rattle.objects_written.specs.bcder.Kinds.{octets, octets_at, oid}
use Rattle.objects_written.specs.certs_key.Algorithms.{AlgorithmValue, algorithm_of}
use Rattle.objects_written.specs.bcder.Identifiers.{IsIdentifier}
use Rattle.objects_written.specs.certs_basics.Basics.{IsTwentyLong}
use Rattle.objects_written.specs.certs_basics.Identifiers.{rsa_encryption}
use Rattle.objects_written.specs.certs_extension.Cert.{CertValue}
use Rattle.objects_written.specs.certs_extension.CertText.{SpellsCert}
use Rattle.objects_written.specs.objects_payload.Identifiers as id
use Rattle.objects_written.specs.objects_payload.ObjectText.{Object}
use Rattle.objects_written.specs.Attributes.{ToSign, WritesAttributes}
use Rattle.certs.specs.Fields.{name, version}
use Rattle.certs.specs.Outputs.{Output, beside, inside, of}

-- An algorithm, with NULL or without.
abbrev pub algorithm : AlgorithmValue → Output
algorithm a = of (algorithm_of a.kind) a.has_null

-- SHA-256 without NULL (RFC 5754 2); rsaEncryption with NULL (RFC 7935 2, RFC 3370 3.2)
abbrev pub sha256 : AlgorithmValue
sha256 = record { kind = id.sha256; has_null = false }

abbrev pub rsa : AlgorithmValue
rsa = record { kind = rsa_encryption; has_null = true }

-- Captured octets, as they stand.
abbrev pub kept : CapturedValue → Output
kept = name

-- What one signer signed: the identifier of its key, the content octets of the attributes, and the signature.
pub record SignerParts : Type 0 where
  pub sid : List ℕ
  pub attributes : CapturedValue
  pub signature : List ℕ

-- The algorithms are given with it: of the digest, and of the signature.
abbrev pub SignerFields : Type 0
SignerFields = ℕ × (List ℕ × (AlgorithmValue × (CapturedValue × (AlgorithmValue × List ℕ))))

abbrev pub signer_fields : SignerParts → SignerFields
signer_fields s = (3, (s.sid, (sha256, (s.attributes, (rsa, s.signature)))))

-- SignerInfo ::= SEQUENCE { version INTEGER (3), sid [0] SubjectKeyIdentifier, digestAlgorithm, signedAttrs [0],
-- signatureAlgorithm, signature OCTET STRING } (RFC 5652 5.3, RFC 6488 2.1.6)
abbrev pub written_signer : SignerFields → Output
written_signer f =
    inside sequence_tag
    (beside (version f.0)
    (beside (of (octets_at (context 0)) f.1.0)
    (beside (algorithm f.1.1.0)
    (beside (inside (context 0) (kept f.1.1.1.0))
    (beside (algorithm f.1.1.1.1.0)
    (of octets f.1.1.1.1.1))))))

abbrev pub signer : SignerParts → Output
signer s = written_signer (signer_fields s)

-- The content with its type, the certificate, and the signer.
pub record ObjectParts : Type 0 where
  pub content_type : List ℕ
  pub content : List ℕ
  pub cert : CapturedValue
  pub signer : SignerParts

-- EncapsulatedContentInfo ::= SEQUENCE { eContentType OBJECT IDENTIFIER, eContent [0] EXPLICIT OCTET STRING } (RFC 5652 5.2)
abbrev pub content_info : List ℕ → List ℕ → Output
content_info kind content =
    inside sequence_tag (beside (of oid kind) (inside (context 0) (of octets content)))

abbrev pub SignedFields : Type 0
SignedFields = ℕ × (AlgorithmValue × (List ℕ × (List ℕ × (CapturedValue × SignerParts))))

abbrev pub signed_fields : ObjectParts → SignedFields
signed_fields o = (3, (sha256, (o.content_type, (o.content, (o.cert, o.signer)))))

-- SignedData ::= SEQUENCE { version INTEGER (3), digestAlgorithms SET, encapContentInfo, certificates [0], signerInfos SET }
-- (RFC 5652 5.1, RFC 6488 2.1)
abbrev pub written_signed : SignedFields → Output
written_signed f =
    inside sequence_tag
    (beside (version f.0)
    (beside (inside set_tag (algorithm f.1.0))
    (beside (content_info f.1.1.0 f.1.1.1.0)
    (beside (inside (context 0) (kept f.1.1.1.1.0))
    (inside set_tag (signer f.1.1.1.1.1))))))

abbrev pub signed_data : ObjectParts → Output
signed_data o = written_signed (signed_fields o)

-- ContentInfo ::= SEQUENCE { contentType (signedData), content [0] EXPLICIT SignedData } (RFC 5652 3)
abbrev pub object : ObjectParts → Output
object o = inside sequence_tag (beside (of oid id.signed_data) (inside (context 0) (signed_data o)))

-- The parts fit together: the octets of the certificate spell it, its subject is the signer, and the attributes are of this
-- content's type, which is an identifier (RFC 6488 2.1.4, 2.1.6).
pub record AreParts (o : ObjectParts) (c : CertValue) (s : ToSign) : Type 0 where
  pub known : IsIdentifier o.content_type
  pub same_type : s.content_type ≡ o.content_type
  pub cert : SpellsCert Der o.cert.octets c
  pub own : o.signer.sid ≡ c.tbs.subject_key_identifier
  pub long : IsTwentyLong o.signer.sid
  pub attributes : WritesAttributes s o.signer.attributes.octets

-- The object that these parts are, with a certificate that its octets spell.
abbrev pub object_with : ObjectParts → CertValue → ToSign → Object
object_with o c s = record {
  content_type = o.content_type;
  content = o.content;
  cert = c;
  signer = record {
    sid = o.signer.sid;
    attributes = o.signer.attributes.octets;
    digest = s.digest;
    signing_time = Some s.time;
    binary_signing_time = None;
    has_null = true;
    signature = o.signer.signature;
  };
}
