-- What a signed object is built of (RFC 6488 2, RFC 6487 4).
use Rattle.std.specs.Prelude.{◌≡◌, ◌≢◌, ◌⊎◌, ℕ, Bool, true, List, Option, Some, None}
use Rattle.objects_written.specs.bcder_tree.declared.mode.Mode.TheVariants.{Der}
use Rattle.objects_written.specs.bcder_tree.Tree.{Tree}
use Rattle.objects_written.specs.bcder_content.Kept.{CapturedValue}
use Rattle.objects_written.specs.bcder_content.Texts.{SpellsOf}
use Rattle.objects_written.specs.bcder_octets.BitContents.{IsPadded}
use Rattle.objects_written.specs.resources_chain.Claims.{Choice}
use Rattle.objects_written.specs.resources_chain.declared.choice.ResourcesChoice.TheVariants.{Missing}
use Rattle.resources_ip.specs.WholeSets.{ListsWhole}
use Rattle.objects_written.specs.resources_chain.declared.claims.Overclaim.TheVariants.{Refuse}
use Rattle.objects_written.specs.certs_basics.Basics.{IsTwentyLong}
use Rattle.objects_written.specs.certs_basics.HandedIn.{Digests}
use Rattle.objects_written.specs.certs_basics.Keys.{KeyValue, identifier}
use Rattle.objects_written.specs.certs_extension.declared.forms.KeyUsage.TheVariants.{Ee}
use Rattle.objects_written.specs.certs_extension.Cert.{CertValue, TbsValue}
use Rattle.objects_written.specs.certs.Laws.{IsLawful, as_read}
use Rattle.certs_cert.specs.Fresh.{IsSubjectFor}
use Rattle.certs_cert.specs.Written.{WritesCert}
use Rattle.objects_written.specs.certs.Tbs.{WritesTbs}
use Rattle.objects_written.specs.Attributes.{IsMessage, WritesAttributes, to_sign}
use Rattle.objects_written.specs.objects_payload.ObjectText.{Object}
use Rattle.objects_written.specs.Frames.{ObjectParts, object, object_with}

-- The fields of its certificate that aren't given by the keys, and the moment of signing.
pub record BuilderValue : Type 0 where
  pub serial : ℕ
  pub not_before : ℕ
  pub not_after : ℕ
  -- the names, where they aren't those of the keys
  pub issuer : Option CapturedValue
  pub subject : Option CapturedValue
  pub crl_uri : List ℕ
  pub ca_issuer : List ℕ
  pub signed_object : List ℕ
  pub v4 : Choice
  pub v6 : Choice
  pub asn : Choice
  pub signing_time : ℕ

-- The fields of the certificate: those of the builder, of the key that signed and of the issuer's key; the key is one of an
-- end entity (RFC 6488 2.1.4), and the certificate is refused where it claims what the issuer doesn't hold (RFC 6487 7.2).
abbrev pub cert_fields : BuilderValue → CapturedValue → CapturedValue → KeyValue → List ℕ → List ℕ
    → TbsValue
cert_fields b issuer subject key own authority = record {
  serial = b.serial;
  has_null = true;
  issuer = issuer;
  not_before = b.not_before;
  not_after = b.not_after;
  subject = subject;
  key = key;
  basic_ca = None;
  subject_key_identifier = own;
  authority_key_identifier = Some authority;
  key_usage = Ee;
  extended_key_usage = None;
  crl_uri = Some b.crl_uri;
  ca_issuer = Some b.ca_issuer;
  access =
      record { repository = None; manifest = None; object = Some b.signed_object; notify = None };
  overclaim = Refuse;
  v4 = b.v4;
  v6 = b.v6;
  asn = b.asn;
}

-- The names are the builder's, and the keys' where none are given (RFC 6487 4.4, 4.5).
pub record AreFieldsOf (d : Digests) (b : BuilderValue) (issuer_key key : KeyValue) (t : TbsValue)
    : Type 0 where
  pub issuer : IsSubjectFor d issuer_key b.issuer t.issuer
  pub subject : IsSubjectFor d key b.subject t.subject
  pub fields : t ≡ cert_fields b t.issuer t.subject key (identifier d key) (identifier d issuer_key)

-- What is written of an object with that content, certificate, attributes and signature.
pub record WritesObject (content_type content : List ℕ) (cert : CertValue)
    (attributes : CapturedValue) (signature octets : List ℕ) : Type 0 where
  pub parts : ObjectParts
  pub type_is : parts.content_type ≡ content_type
  pub content_is : parts.content ≡ content
  pub cert_is : WritesCert cert Der parts.cert.octets
  pub own : parts.signer.sid ≡ cert.tbs.subject_key_identifier
  pub long : IsTwentyLong parts.signer.sid
  pub attributes_are : parts.signer.attributes ≡ attributes
  pub signature_is : parts.signer.signature ≡ signature
  pub written : (object parts).writes Der octets

-- A signed object that is built: its certificate has the builder's fields, and what is written of them was signed by the
-- algorithm that they name; its signer is the certificate's subject, whose key has no unused bits that are set, and its
-- attributes tell the content's type, its digest and the moment of signing (RFC 6488 2.1).
pub record IsBuilt (d : Digests) (b : BuilderValue) (content_type content octets : List ℕ)
    : Type 0 where
  pub issuer_key : KeyValue
  pub key : KeyValue
  pub padded : IsPadded Der key.bits
  pub cert : CertValue
  pub fields : AreFieldsOf d b issuer_key key cert.tbs
  pub lawful : IsLawful cert.tbs
  pub message : WritesTbs cert.tbs cert.signed.message
  pub algorithm : cert.signed.has_null ≡ cert.tbs.has_null
  pub attributes : CapturedValue
  pub attributes_are : WritesAttributes (to_sign content_type
      (d.sha256 content) b.signing_time) attributes.octets
  pub signature : List ℕ
  pub written : WritesObject content_type content cert attributes signature octets

-- A signature of attributes by that key, which is made for it alone: over them as a SET in DER (RFC 5652 5.4). SignsOnce says
-- which octets may be a signature of a message by such a key.
pub record SignsAttributes (SignsOnce : KeyValue → List ℕ → List ℕ → Type 0) (attributes : List ℕ)
    (key : KeyValue) (signature : List ℕ) : Type 0 where
  pub message : List ℕ
  pub message_is : IsMessage attributes message
  pub is : SignsOnce key message signature

-- Who signed an object that is built: the issuer's key is one that the signer has, and signed the certificate's fields, as
-- they stand in it; the certificate's key signed the attributes (RFC 5280 4.1.1.3, RFC 5652 5.4).
pub record IsSigned {d : Digests} {b : BuilderValue} {content_type content octets : List ℕ}
    (HasKey : KeyValue → Type 0) (Signs : List ℕ → List ℕ → Type 0)
    (SignsOnce : KeyValue → List ℕ → List ℕ → Type 0)
    (x : IsBuilt d b content_type content octets) : Type 0 where
  pub issuer : HasKey x.issuer_key
  pub cert : Signs x.cert.signed.message x.cert.signed.signature
  pub attributes : SignsAttributes SignsOnce x.attributes.octets x.key x.signature

-- The certificate can be read again: some kind of resources is there, IPv4 ones over whole addresses (RFC 6487 4.8.10, 4.8.11;
-- RFC 3779 2.2.3).
pub record IsComplete (b : BuilderValue) : Type 0 where
  pub some : (b.v4 ≢ Missing) ⊎ ((b.v6 ≢ Missing) ⊎ (b.asn ≢ Missing))
  pub whole : ListsWhole b.v4

-- Fields that are set: the issuer's key and where things are found; the resources.
abbrev pub with_places : TbsValue → List ℕ → List ℕ → List ℕ → List ℕ → TbsValue
with_places t authority crl_uri ca_issuer object = record t {
  authority_key_identifier = Some authority;
  crl_uri = Some crl_uri;
  ca_issuer = Some ca_issuer;
  access = record {
    repository = t.access.repository;
    manifest = t.access.manifest;
    object = Some object;
    notify = t.access.notify;
  };
}

abbrev pub with_resources : TbsValue → Choice → Choice → Choice → TbsValue
with_resources t v4 v6 asn = record t { v4 = v4; v6 = v6; asn = asn }

-- The object that was built: its certificate has the fields that were built, and the signature whose unused bits are zero.
abbrev pub built_object : {d : Digests} {b : BuilderValue} {content_type content octets : List ℕ}
    → IsBuilt d b content_type content octets → Object
built_object {d} {b} {content_type} {content} x =
    object_with x.written.parts (as_read x.written.cert_is.value x.cert.tbs)
    (to_sign content_type (d.sha256 content) b.signing_time)

-- An object that is built of a content is read again, strictly, as the object of that kind, with what the content says.
abbrev pub KindIsRead : {A : Type 0} → List ℕ → (Tree → A → Type 0)
    → (Bool → List ℕ → Object → A → Type 0) → Type 0
KindIsRead {A} kind Q P = (d : Digests) (b : BuilderValue) (content octets : List ℕ)
    (x : IsBuilt d b kind content octets) (said : A) → SpellsOf Der Q content said → IsComplete b
    → P true octets (built_object x) said
