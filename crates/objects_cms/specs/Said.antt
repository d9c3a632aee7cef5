-- What one attribute says, by its kind (RFC 5652 5.3, 11, RFC 6019 3).
use Rattle.std.specs.Prelude.{◌≡◌, ℕ, List}
use Rattle.objects_cms.specs.bcder_tree.declared.mode.Mode.{Mode}
use Rattle.objects_cms.specs.bcder_tree.Tags.{oid_tag, sequence_tag, set_tag}
use Rattle.objects_cms.specs.bcder_tree.Tree.{Tree, Trees}
use Rattle.objects_cms.specs.bcder_tree.Strings.{IsOctetString}
use Rattle.objects_cms.specs.bcder.Identifiers.{IsOid}
use Rattle.objects_cms.specs.bcder_content.Grammar.{As, End, Inside, OctetsOf, Then}
use Rattle.objects_cms.specs.bcder_content.Words.{Means, ThenBy}
use Rattle.objects_cms.specs.certs_basics.Forms.{IsTime}
use Rattle.objects_payload.specs.Identifiers as id
use Rattle.objects_payload.specs.SignedAttributes.{IsBinaryTime}
use Rattle.objects_cms.specs.declared.attributes.kinds.Kind.{Kind}
use Rattle.objects_cms.specs.declared.attributes.kinds.Kind.TheVariants as kinds
use Rattle.objects_cms.specs.declared.attributes.said.Said.{Said}
use Rattle.objects_cms.specs.declared.attributes.said.Said.TheVariants.{ContentType, MessageDigest, SigningTime, BinarySigningTime}

-- The identifier of a kind.
abbrev pub octets_of : Kind → List ℕ
octets_of kinds.ContentType = id.content_type
octets_of kinds.MessageDigest = id.message_digest
octets_of kinds.SigningTime = id.signing_time
octets_of kinds.BinarySigningTime = id.binary_signing_time

abbrev pub kind_of : Said → Kind
kind_of (ContentType oid) = kinds.ContentType
kind_of (MessageDigest digest) = kinds.MessageDigest
kind_of (SigningTime time) = kinds.SigningTime
kind_of (BinarySigningTime seconds) = kinds.BinarySigningTime

abbrev pub as_type : List ℕ → Said
as_type octets = ContentType (record { 0 = octets })

-- The value of an attribute of that kind: an identifier, a string of octets, a time, or a number of seconds.
abbrev pub IsValueOf : Mode → Kind → Tree → Said → Type 0
IsValueOf m kinds.ContentType = As (OctetsOf oid_tag IsOid) as_type
IsValueOf m kinds.MessageDigest = As (IsOctetString m) MessageDigest
IsValueOf m kinds.SigningTime = As IsTime SigningTime
IsValueOf m kinds.BinarySigningTime = As IsBinaryTime BinarySigningTime

abbrev pub alone : {A : Type 0} → A → A × Unit {0}
alone x = (x, tt)

abbrev pub AreOneValue : Mode → Kind → Trees → Said × Unit {0} → Type 0
AreOneValue m kind = Then (IsValueOf m kind) End

abbrev pub IsKindOid : List ℕ → Kind → Type 0
IsKindOid octets kind = octets ≡ octets_of kind

-- SEQUENCE { attrType OBJECT IDENTIFIER, attrValues SET OF one value }, by what the identifier says (RFC 5652 5.3,
-- RFC 6488 2.1.6.4).
abbrev pub SaidFields : Type 0
SaidFields = Kind × ((Said × Unit {0}) × Unit {0})

abbrev pub AreSaid : Mode → Trees → SaidFields → Type 0
AreSaid m = ThenBy (Means (OctetsOf oid_tag IsOid) IsKindOid)
    (λ kind. Then (Inside set_tag (AreOneValue m kind)) End)

abbrev pub said_fields : Said → SaidFields
said_fields s = (kind_of s, (alone s, tt))

abbrev pub said_of : SaidFields → Said
said_of f = f.1.0.0

abbrev pub IsSaid : Mode → Tree → Said → Type 0
IsSaid m = As (Inside sequence_tag (AreSaid m)) said_of
