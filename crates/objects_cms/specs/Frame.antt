-- What stands around a signed object's content, by values and by octets (RFC 5652 3, 5; RFC 6488 2.1).
use Rattle.std.specs.Prelude.{ℕ, List}
use Rattle.objects_cms.specs.bcder_tree.declared.mode.Mode.{Mode}
use Rattle.objects_cms.specs.bcder_tree.Tags.{context, oid_tag, sequence_tag, set_tag}
use Rattle.objects_cms.specs.bcder_tree.Tree.{Tree, Trees}
use Rattle.objects_cms.specs.bcder_tree.Strings.{IsOctetString}
use Rattle.objects_cms.specs.bcder.Identifiers.{IsOid}
use Rattle.objects_cms.specs.bcder.declared.oid.oid.Oid.{Oid}
use Rattle.objects_cms.specs.bcder_content.Grammar.{End, Inside, OctetsOf, Then}
use Rattle.objects_cms.specs.bcder_content.Texts.{Joins, NoOctets, SpellsOf, Wraps}
use Rattle.objects_cms.specs.certs_extension.Cert.{CertValue}
use Rattle.objects_cms.specs.certs_extension.CertText.{IsCert, SpellsCert}
use Rattle.objects_cms.specs.objects_payload.Identifiers as id
use Rattle.objects_cms.specs.objects_payload.ObjectText.{AreDigestAlgorithms, IsContentInfo, IsThree, ObjectFields, SignedFields, SignerFields, SpellsSignedData, SpellsSigner}
use Rattle.objects_cms.specs.Signer.{IsSigner, SignerValue, signer_fields}
use Rattle.objects_cms.specs.Said.{alone}

-- The content's type, and the content.
abbrev pub Typed : Type 0
Typed = Oid (List ℕ) × List ℕ

abbrev pub TypedFields : Type 0
TypedFields = List ℕ × ((List ℕ × Unit {0}) × Unit {0})

abbrev pub typed_fields : Typed → TypedFields
typed_fields t = (t.0.0, (alone t.1, tt))

-- The content of [0] EXPLICIT OCTET STRING, and the fields with it (RFC 5652 5.2)
abbrev pub IsString : Mode → Trees → List ℕ × Unit {0} → Type 0
IsString m = Then (IsOctetString m) End

abbrev pub AreTyped : Mode → Trees → TypedFields → Type 0
AreTyped m = Then (OctetsOf oid_tag IsOid) (Then (Inside (context 0) (IsString m)) End)

-- One certificate; its octets are kept (RFC 6488 2.1.4).
abbrev pub AreCerts : Mode → Trees → CertValue × Unit {0} → Type 0
AreCerts m = Then (IsCert m) End

abbrev pub AreCertOctets : Mode → List ℕ → CertValue × Unit {0} → Type 0
AreCertOctets m = Joins (SpellsCert m) NoOctets

abbrev pub SpellsCerts : Mode → List ℕ → CertValue × Unit {0} → Type 0
SpellsCerts m = Wraps m (context 0) (AreCertOctets m)

-- One signer (RFC 6488 2.1.6).
abbrev pub one_signer : SignerValue → SignerFields × Unit {0}
one_signer s = alone (signer_fields s)

abbrev pub AreSigners : Mode → Trees → SignerFields × Unit {0} → Type 0
AreSigners m = Then (IsSigner m) End

abbrev pub AreSignerTexts : Mode → List ℕ → SignerFields × Unit {0} → Type 0
AreSignerTexts m = Joins (SpellsSigner m) NoOctets

abbrev pub SpellsSigners : Mode → List ℕ → SignerFields × Unit {0} → Type 0
SpellsSigners m = Wraps m set_tag (AreSignerTexts m)

-- The content with its type, the certificate, and the signer.
abbrev pub Parts : Type 0
Parts = Typed × CertValue × SignerValue

-- SignedData (RFC 5652 5.1)
abbrev pub signed_fields : Parts → SignedFields
signed_fields p = (tt, ((tt, tt), (typed_fields p.0, (alone p.1, (one_signer p.2, tt)))))

abbrev pub AreSigned : Mode → Trees → SignedFields → Type 0
AreSigned m =
    Then IsThree
    (Then AreDigestAlgorithms
    (Then (IsContentInfo m)
    (Then (Inside (context 0) (AreCerts m))
    (Then (Inside set_tag (AreSigners m))
    End))))

abbrev pub IsSigned : Mode → Tree → SignedFields → Type 0
IsSigned m = Inside sequence_tag (AreSigned m)

abbrev pub AreSignedOctets : Mode → List ℕ → SignedFields → Type 0
AreSignedOctets m =
    Joins (SpellsOf m IsThree)
    (Joins (SpellsOf m AreDigestAlgorithms)
    (Joins (SpellsOf m (IsContentInfo m))
    (Joins (SpellsCerts m)
    (Joins (SpellsSigners m)
    NoOctets))))

-- The content of [0] EXPLICIT SignedData
abbrev pub one_signed : Parts → SignedFields × Unit {0}
one_signed p = alone (signed_fields p)

abbrev pub IsOneSigned : Mode → Trees → SignedFields × Unit {0} → Type 0
IsOneSigned m = Then (IsSigned m) End

abbrev pub SpellsOneSigned : Mode → List ℕ → SignedFields × Unit {0} → Type 0
SpellsOneSigned m = Joins (SpellsSignedData m) NoOctets

abbrev pub SpellsInner : Mode → List ℕ → SignedFields × Unit {0} → Type 0
SpellsInner m = Wraps m (context 0) (SpellsOneSigned m)

-- ContentInfo (RFC 5652 3)
abbrev pub object_fields : Parts → ObjectFields
object_fields p = (tt, (one_signed p, tt))

abbrev pub AreFrame : Mode → Trees → ObjectFields → Type 0
AreFrame m = Then (id.TheOid id.signed_data) (Then (Inside (context 0) (IsOneSigned m)) End)

abbrev pub IsFrame : Mode → Tree → ObjectFields → Type 0
IsFrame m = Inside sequence_tag (AreFrame m)

abbrev pub AreFrameOctets : Mode → List ℕ → ObjectFields → Type 0
AreFrameOctets m = Joins (SpellsOf m (id.TheOid id.signed_data)) (Joins (SpellsInner m) NoOctets)
