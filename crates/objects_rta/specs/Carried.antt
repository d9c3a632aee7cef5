-- What a signed object with several signers carries beside its content: certificates and revocation lists (RFC 5652 5.1;
-- this project's profile of resource tagged attestations).
use Rattle.std.specs.Prelude.{◌≡◌, ℕ, List, [], Option, Some, None, Result, Ok, Err}
use Rattle.objects_cms.specs.bcder_tree.declared.mode.Mode.{Mode}
use Rattle.objects_cms.specs.bcder_tree.declared.mode.Mode.TheVariants.{Der}
use Rattle.objects_cms.specs.bcder_tree.Tags.{context}
use Rattle.objects_cms.specs.bcder_tree.Tree.{SpellsAll, Trees}
use Rattle.objects_cms.specs.bcder_source.Errors.{OnContent}
use Rattle.objects_cms.specs.bcder_source.declared.error.DecodeError.{DecodeError}
use Rattle.objects_cms.specs.bcder_content.Contents.{Ended, TookAll, ValuesLeft}
use Rattle.objects_cms.specs.bcder_content.Exact.{LacksAll}
use Rattle.objects_cms.specs.bcder_content.Grammar.{ExactlyAll, Many, Rest}
use Rattle.objects_cms.specs.bcder_content.Kept.{CapturedValue}
use Rattle.objects_cms.specs.bcder_content.Texts.{InOrder, Wraps}
use Rattle.objects_cms.specs.certs_extension.Cert.{CertValue}
use Rattle.objects_cms.specs.certs_extension.CertText.{IsCert, SpellsCert}
use Rattle.objects_cms.specs.certs_extension.CrlText.{CrlValue, IsCrl}
use Rattle.objects_rta.specs.Several.{Repeats, Several, SomeOf}

-- certificates [0] IMPLICIT SET OF Certificate: one or more, each by its octets (RFC 5652 5.1)
abbrev pub SpellsCerts : Mode → List ℕ → List CertValue → Type 0
SpellsCerts m = Wraps m (context 0) (Several (SpellsCert m))

-- CertificateList, any number, each in DER also where the object is in BER, since what is signed of a list isn't BER
-- (RFC 6487 5). They are values of the object's mode, too: what is DER is BER, and in CER no list is both.
pub record AreLists (m : Mode) (text : List ℕ) (crls : List CrlValue) : Type 0 where
  pub are : InOrder Der (Many (IsCrl Der)) text crls
  pub trees : Trees
  pub spelled : SpellsAll m trees text

-- Certificates, by values and by octets: any number, and one or more.
abbrev pub AreAnyCerts : Mode → Trees → List CertValue → Type 0
AreAnyCerts m = Many (IsCert m)

abbrev pub AreCerts : Mode → Trees → List CertValue → Type 0
AreCerts m = SomeOf (IsCert m)

abbrev pub AnyCertOctets : Mode → List ℕ → List CertValue → Type 0
AnyCertOctets m = Repeats (SpellsCert m)

abbrev pub CertOctets : Mode → List ℕ → List CertValue → Type 0
CertOctets m = Several (SpellsCert m)

-- The octets of any values: of lists, which are read afterwards.
abbrev pub AreValues : Mode → Trees → List ℕ → Type 0
AreValues m = ExactlyAll m Rest

pub record AnyOctets (m : Mode) (text octets : List ℕ) : Type 0 where
  pub same : octets ≡ text
  pub trees : Trees
  pub spelled : SpellsAll m trees text

abbrev pub SpellsAny : Mode → List ℕ → List ℕ → Type 0
SpellsAny m = Wraps m (context 1) (AnyOctets m)

abbrev pub octets_of : CapturedValue → List ℕ
octets_of c = c.octets

-- Lists were read, which are all that was left of a content.
pub record AreWhole (old : ValuesLeft) (crls : List CrlValue) (new : ValuesLeft) : Type 0 where
  pub trees : Trees
  pub took : TookAll old trees new
  pub ended : Ended new
  pub is : Many (IsCrl old.mode) trees crls

-- A reader of such a content, its end included, by what its answer means.
abbrev pub ReadsWhole : {A E : Type 0} → (A → List CrlValue) → ValuesLeft
    → Result A (DecodeError E) → ValuesLeft → Type 0
ReadsWhole f old (Ok x) new = AreWhole old (f x) new
ReadsWhole f old (Err e) new = OnContent e (LacksAll (Many (IsCrl old.mode)) old)

-- All of the octets are these lists in DER; where there are no octets, there are no lists.
abbrev pub AreListsIn : Option (List ℕ) → List CrlValue → Type 0
AreListsIn None crls = crls ≡ []
AreListsIn (Some octets) crls = InOrder Der (Many (IsCrl Der)) octets crls

-- The lists of these octets, or they are none.
abbrev pub DecodesLists : {A E : Type 0} → (A → List CrlValue) → Option (List ℕ)
    → Result A (DecodeError E) → Type 0
DecodesLists f octets (Ok x) = AreListsIn octets (f x)
DecodesLists f octets (Err e) = OnContent e ((crls : List CrlValue) → AreListsIn octets crls → ⊥)
