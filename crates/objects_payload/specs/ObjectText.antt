-- Which octets are a signed object (RFC 5652 3, 5; RFC 6488 2).
use Rattle.std.specs.Prelude.{◌≡◌, ℕ, ◌^◌, ◌≤◌, Bool, true, false, List, ◌∷◌, ◌++◌, length, Option, Some, None}
use Rattle.objects_payload.specs.bcder_tree.declared.mode.Mode.{Mode}
use Rattle.objects_payload.specs.bcder_tree.declared.mode.Mode.TheVariants.{Ber, Der}
use Rattle.objects_payload.specs.bcder_tree.Tags.{context, integer_tag, oid_tag, sequence_tag, set_tag}
use Rattle.objects_payload.specs.bcder_tree.Octets.{IsLength}
use Rattle.objects_payload.specs.bcder_tree.Tree.{Tree}
use Rattle.objects_payload.specs.bcder_tree.Strings.{IsOctetString}
use Rattle.objects_payload.specs.bcder_primitive.Values.{IsUnsigned, IsValue}
use Rattle.objects_payload.specs.bcder.Identifiers.{IsOid}
use Rattle.objects_payload.specs.bcder_content.Grammar.{OctetsOf, Inside, Then, End}
use Rattle.objects_payload.specs.bcder_content.Texts.{SpellsOf, InOrder, WithOctets, Wraps, Joins, NoOctets, InFront}
use Rattle.objects_payload.specs.certs_basics.HandedIn.{Digests}
use Rattle.objects_payload.specs.certs_basics.Verdicts.{Verdicts}
use Rattle.objects_payload.specs.certs_basics.Basics.{IsKeyIdentifier}
use Rattle.objects_payload.specs.certs_extension.Cert.{CertValue}
use Rattle.objects_payload.specs.certs_extension.CertText.{SpellsCert}
use Rattle.objects_payload.specs.SignedAttributes.{AttributesValue, AreAttributes}
use Rattle.objects_payload.specs.Identifiers as id

-- What one signer signed, and how.
pub record Signer : Type 0 where
  -- the identifier of its key
  pub sid : List ℕ
  -- the content octets of the attributes, as they stand
  pub attributes : List ℕ
  pub digest : List ℕ
  pub signing_time : Option ℕ
  pub binary_signing_time : Option ℕ
  -- whether NULL stands in the signature's algorithm
  pub has_null : Bool
  pub signature : List ℕ

pub record Object : Type 0 where
  pub content_type : List ℕ
  pub content : List ℕ
  pub cert : CertValue
  pub signer : Signer

-- Strict is DER, else BER.
abbrev pub mode : Bool → Mode
mode true = Der
mode false = Ber

-- INTEGER 3
abbrev pub IsThree : Tree → Unit {0} → Type 0
IsThree = OctetsOf integer_tag (IsValue (IsUnsigned (2 ^ 8)) 3)

-- digestAlgorithms SET OF DigestAlgorithmIdentifier: one (RFC 6488 2.1.2)
abbrev pub AreDigestAlgorithms : Tree → Unit {0} × Unit {0} → Type 0
AreDigestAlgorithms = Inside set_tag (Then id.IsDigestAlgorithm End)

-- EncapsulatedContentInfo ::= SEQUENCE { eContentType OBJECT IDENTIFIER, eContent [0] EXPLICIT OCTET STRING }
-- (RFC 5652 5.2, RFC 6488 2.1.3)
abbrev pub IsContentInfo : Mode → Tree → List ℕ × ((List ℕ × Unit {0}) × Unit {0}) → Type 0
IsContentInfo m = Inside sequence_tag (Then (OctetsOf oid_tag IsOid)
    (Then (Inside (context 0) (Then (IsOctetString m) End)) End))

-- [0] IMPLICIT SubjectKeyIdentifier: 20 octets (RFC 6488 2.1.6.2)
abbrev pub IsSid : Mode → Tree → List ℕ → Type 0
IsSid m = IsKeyIdentifier m (context 0)

-- SignerInfo ::= SEQUENCE { version INTEGER (3), sid, digestAlgorithm, signedAttrs, signatureAlgorithm, signature OCTET
-- STRING }; the attributes' content octets are kept, since they are signed as they stand (RFC 5652 5.3, 5.4; RFC 6488 2.1.6)
abbrev pub SignerFields : Type 0
SignerFields =
    Unit {0} × (List ℕ × (Unit {0} × ((List ℕ × AttributesValue) × (Bool × (List ℕ × Unit {0})))))

abbrev pub SpellsSigner : Mode → List ℕ → SignerFields → Type 0
SpellsSigner m =
    Wraps m sequence_tag
    (Joins (SpellsOf m IsThree)
    (Joins (SpellsOf m (IsSid m))
    (Joins (SpellsOf m id.IsDigestAlgorithm)
    (Joins (Wraps m (context 0) (WithOctets (InOrder m (AreAttributes m))))
    (Joins (SpellsOf m id.IsSignatureAlgorithm)
    (Joins (SpellsOf m (IsOctetString m))
    NoOctets))))))

abbrev pub signer_of : SignerFields → Signer
signer_of f = record {
  sid = f.1.0;
  attributes = f.1.1.1.0.0;
  digest = f.1.1.1.0.1.digest;
  signing_time = f.1.1.1.0.1.signing_time;
  binary_signing_time = f.1.1.1.0.1.binary_signing_time;
  has_null = f.1.1.1.1.0;
  signature = f.1.1.1.1.1.0;
}

-- SignedData ::= SEQUENCE { version INTEGER (3), digestAlgorithms, encapContentInfo, certificates [0] IMPLICIT SET of one
-- certificate, signerInfos SET of one signer }, without CRLs (RFC 5652 5.1, RFC 6488 2.1)
abbrev pub SignedFields : Type 0
SignedFields = Unit {0} × ((Unit {0} × Unit {0})
    × ((List ℕ × ((List ℕ × Unit {0}) × Unit {0}))
    × ((CertValue × Unit {0}) × ((SignerFields × Unit {0}) × Unit {0}))))

abbrev pub SpellsSignedData : Mode → List ℕ → SignedFields → Type 0
SpellsSignedData m =
    Wraps m sequence_tag
    (Joins (SpellsOf m IsThree)
    (Joins (SpellsOf m AreDigestAlgorithms)
    (Joins (SpellsOf m (IsContentInfo m))
    (Joins (Wraps m (context 0) (Joins (SpellsCert m) NoOctets))
    (Joins (Wraps m set_tag (Joins (SpellsSigner m) NoOctets))
    NoOctets)))))

-- ContentInfo ::= SEQUENCE { contentType (signedData), content [0] EXPLICIT SignedData } (RFC 5652 3)
abbrev pub ObjectFields : Type 0
ObjectFields = Unit {0} × ((SignedFields × Unit {0}) × Unit {0})

abbrev pub SpellsContentInfo : Mode → List ℕ → ObjectFields → Type 0
SpellsContentInfo m =
    Wraps m sequence_tag
    (Joins (SpellsOf m (id.TheOid id.signed_data))
    (Joins (Wraps m (context 0) (Joins (SpellsSignedData m) NoOctets))
    NoOctets))

abbrev pub object_of : SignedFields → Object
object_of f = record {
  content_type = f.1.1.0.0;
  content = f.1.1.0.1.0.0;
  cert = f.1.1.1.0.0;
  signer = signer_of f.1.1.1.1.0.0;
}

-- The attribute for the content's type has that type, and the signer is the certificate's subject (RFC 6488 2.1.6).
pub record SaysObject (f : SignedFields) (o : Object) : Type 0 where
  pub fields : o ≡ object_of f
  pub same_type : f.1.1.1.1.0.0.1.1.1.0.1.content_type ≡ o.content_type
  pub own : o.signer.sid ≡ o.cert.tbs.subject_key_identifier

pub record SpellsObject (m : Mode) (text : List ℕ) (o : Object) : Type 0 where
  pub fields : ObjectFields
  pub is : SpellsContentInfo m text fields
  pub says : SaysObject fields.1.0.0 o

-- A signed object stands in front of the octets, in DER, or where not strict in BER.
abbrev pub ObjectText : Bool → List ℕ → Object → Type 0
ObjectText strict = InFront (SpellsObject (mode strict))

-- What the signer signed: the attributes as a SET (49) in place of [0], with the shortest length (RFC 5652 5.4).
pub record IsSignedMessage (s : Signer) (message : List ℕ) : Type 0 where
  pub size : List ℕ
  pub size_is : IsLength Der size (length s.attributes)
  pub whole : message ≡ 49 ∷ (size ++ s.attributes)

-- A signing time, if there is one, isn't after the moment.
abbrev pub IsNotAfter : Option ℕ → ℕ → Type 0
IsNotAfter None moment = Unit {0}
IsNotAfter (Some time) moment = time ≤ moment

-- The object's signer signed its content: the digest is the content's, the signing time isn't too late, and the signature
-- is good by the certificate's key (RFC 5652 5.4, 5.6; RFC 6488 3).
pub record Sound (d : Digests) (v : Verdicts) (o : Object) : Type 0 where
  pub digest : o.signer.digest ≡ d.sha256 o.content
  pub time : IsNotAfter o.signer.signing_time o.cert.tbs.not_after
  pub message : List ℕ
  pub message_is : IsSignedMessage o.signer message
  pub signature : v o.cert.tbs.key o.signer.has_null message o.signer.signature ≡ true
