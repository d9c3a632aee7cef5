-- What one signer signed, and how, by values and by octets (RFC 5652 5.3, RFC 6488 2.1.6).
use Rattle.std.specs.Prelude.{ℕ, Bool, List}
use Rattle.objects_cms.specs.bcder_tree.declared.mode.Mode.{Mode}
use Rattle.objects_cms.specs.bcder_tree.Tags.{context, sequence_tag}
use Rattle.objects_cms.specs.bcder_tree.Tree.{Tree, Trees}
use Rattle.objects_cms.specs.bcder_tree.Strings.{IsOctetString}
use Rattle.objects_cms.specs.bcder_content.Grammar.{End, Inside, Then}
use Rattle.objects_cms.specs.bcder_content.Texts.{InOrder, Joins, NoOctets, SpellsOf, WithOctets, Wraps}
use Rattle.objects_cms.specs.objects_payload.Identifiers as id
use Rattle.objects_cms.specs.objects_payload.ObjectText.{IsSid, IsThree, SignerFields}
use Rattle.objects_cms.specs.objects_payload.SignedAttributes.{AreAttributes, AttributesValue}
use Rattle.objects_cms.specs.Kept.{AreKept}

pub record SignerValue : Type 0 where
  -- the identifier of its key
  pub sid : List ℕ
  -- the content octets of the attributes, as they stand, and what they say
  pub attributes : List ℕ × AttributesValue
  -- whether NULL stands in the signature's algorithm
  pub has_null : Bool
  pub signature : List ℕ

abbrev pub signer_fields : SignerValue → SignerFields
signer_fields s = (tt, (s.sid, (tt, (s.attributes, (s.has_null, (s.signature, tt))))))

-- By values, in a mode.
abbrev pub AreSigner : Mode → Trees → SignerFields → Type 0
AreSigner m =
    Then IsThree
    (Then (IsSid m)
    (Then id.IsDigestAlgorithm
    (Then (Inside (context 0) (AreKept m))
    (Then id.IsSignatureAlgorithm
    (Then (IsOctetString m)
    End)))))

abbrev pub IsSigner : Mode → Tree → SignerFields → Type 0
IsSigner m = Inside sequence_tag (AreSigner m)

-- By octets: the attributes' are kept.
abbrev pub AreKeptOctets : Mode → List ℕ → List ℕ × AttributesValue → Type 0
AreKeptOctets m = WithOctets (InOrder m (AreAttributes m))

abbrev pub SpellsKept : Mode → List ℕ → List ℕ × AttributesValue → Type 0
SpellsKept m = Wraps m (context 0) (AreKeptOctets m)

abbrev pub AreSignerOctets : Mode → List ℕ → SignerFields → Type 0
AreSignerOctets m =
    Joins (SpellsOf m IsThree)
    (Joins (SpellsOf m (IsSid m))
    (Joins (SpellsOf m id.IsDigestAlgorithm)
    (Joins (SpellsKept m)
    (Joins (SpellsOf m id.IsSignatureAlgorithm)
    (Joins (SpellsOf m (IsOctetString m))
    NoOctets)))))
