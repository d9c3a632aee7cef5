-- What stands around the content of a signed object with several signers, by what is read of it: lists by their octets.
use Rattle.std.specs.Prelude.{◌≡◌, Bool, ℕ, List, map, All, Result, Ok, Err}
use Rattle.std.specs.Option.{option_map}
use Rattle.objects_cms.specs.bcder_tree.declared.mode.Mode.{Mode}
use Rattle.objects_cms.specs.bcder_tree.Tags.{context, sequence_tag, set_tag}
use Rattle.objects_cms.specs.bcder_tree.Tree.{Tree, Trees}
use Rattle.objects_cms.specs.bcder_source.Errors.{OnContent}
use Rattle.objects_cms.specs.bcder_source.declared.error.DecodeError.{DecodeError}
use Rattle.objects_cms.specs.bcder_content.Grammar.{End, Inside, Many, Opt, Then}
use Rattle.objects_cms.specs.bcder_content.Texts.{Joins, NoOctets, SpellsOf, Wraps}
use Rattle.objects_cms.specs.certs_extension.CrlText.{CrlValue}
use Rattle.objects_cms.specs.objects_payload.Identifiers as id
use Rattle.objects_cms.specs.objects_payload.ObjectText.{AreDigestAlgorithms, IsContentInfo, IsThree, SignerFields, SpellsSigner, signer_of}
use Rattle.objects_cms.specs.Frame.{Typed, typed_fields}
use Rattle.objects_cms.specs.Said.{alone}
use Rattle.objects_cms.specs.Signer.{IsSigner, signer_fields}
use Rattle.objects_rta.specs.Several.{Repeats, Several, SomeOf}
use Rattle.objects_rta.specs.Carried.{AnyOctets, AreCerts, AreListsIn, AreValues, octets_of}
use Rattle.objects_rta.specs.MultiText.{CarriedFields, InfoFields, Multi, MultiFields, MultiText, SignsType, SpellsCarried, SpellsMultiData, SpellsMultiInfo}
use Rattle.objects_rta.specs.declared.frame.Carried.{Carried}

-- Signers, by values and by octets: any number, and one or more.
abbrev pub AreAnySigners : Mode → Trees → List SignerFields → Type 0
AreAnySigners m = Many (IsSigner m)

abbrev pub AreSigners : Mode → Trees → List SignerFields → Type 0
AreSigners m = SomeOf (IsSigner m)

abbrev pub AnySignerOctets : Mode → List ℕ → List SignerFields → Type 0
AnySignerOctets m = Repeats (SpellsSigner m)

abbrev pub SignerOctets : Mode → List ℕ → List SignerFields → Type 0
SignerOctets m = Several (SpellsSigner m)

-- What stands behind the content.
abbrev pub carried_fields : Carried → CarriedFields (List ℕ)
carried_fields c =
    (c.certs.items, (option_map octets_of c.lists, (map signer_fields c.signers.items, tt)))

abbrev pub AreCarried : Mode → Trees → CarriedFields (List ℕ) → Type 0
AreCarried m =
    Then (Inside (context 0) (AreCerts m))
    (Opt (context 1) (Inside (context 1) (AreValues m))
    (Then (Inside set_tag (AreSigners m))
    End))

abbrev pub AreCarriedOctets : Mode → List ℕ → CarriedFields (List ℕ) → Type 0
AreCarriedOctets m = SpellsCarried m (AnyOctets m)

-- SignedData (RFC 5652 5.1)
abbrev pub Parts : Type 0
Parts = Typed × Carried

abbrev pub multi_fields : Parts → MultiFields (List ℕ)
multi_fields p = (tt, ((tt, tt), (typed_fields p.0, carried_fields p.1)))

abbrev pub AreMulti : Mode → Trees → MultiFields (List ℕ) → Type 0
AreMulti m =
    Then IsThree
    (Then AreDigestAlgorithms
    (Then (IsContentInfo m)
    (AreCarried m)))

abbrev pub IsMulti : Mode → Tree → MultiFields (List ℕ) → Type 0
IsMulti m = Inside sequence_tag (AreMulti m)

abbrev pub AreMultiOctets : Mode → List ℕ → MultiFields (List ℕ) → Type 0
AreMultiOctets m =
    Joins (SpellsOf m IsThree)
    (Joins (SpellsOf m AreDigestAlgorithms)
    (Joins (SpellsOf m (IsContentInfo m))
    (AreCarriedOctets m)))

abbrev pub SpellsRawData : Mode → List ℕ → MultiFields (List ℕ) → Type 0
SpellsRawData m = SpellsMultiData m (AnyOctets m)

-- The content of [0] EXPLICIT SignedData
abbrev pub one_multi : Parts → MultiFields (List ℕ) × Unit {0}
one_multi p = alone (multi_fields p)

abbrev pub IsOneMulti : Mode → Trees → MultiFields (List ℕ) × Unit {0} → Type 0
IsOneMulti m = Then (IsMulti m) End

abbrev pub SpellsOneMulti : Mode → List ℕ → MultiFields (List ℕ) × Unit {0} → Type 0
SpellsOneMulti m = Joins (SpellsRawData m) NoOctets

abbrev pub SpellsInner : Mode → List ℕ → MultiFields (List ℕ) × Unit {0} → Type 0
SpellsInner m = Wraps m (context 0) (SpellsOneMulti m)

-- ContentInfo (RFC 5652 3)
abbrev pub info_fields : Parts → InfoFields (List ℕ)
info_fields p = (tt, (one_multi p, tt))

abbrev pub AreInfo : Mode → Trees → InfoFields (List ℕ) → Type 0
AreInfo m = Then (id.TheOid id.signed_data) (Then (Inside (context 0) (IsOneMulti m)) End)

abbrev pub IsInfo : Mode → Tree → InfoFields (List ℕ) → Type 0
IsInfo m = Inside sequence_tag (AreInfo m)

abbrev pub AreInfoOctets : Mode → List ℕ → InfoFields (List ℕ) → Type 0
AreInfoOctets m = Joins (SpellsOf m (id.TheOid id.signed_data)) (Joins (SpellsInner m) NoOctets)

abbrev pub SpellsRaw : Mode → List ℕ → InfoFields (List ℕ) → Type 0
SpellsRaw m = SpellsMultiInfo m (AnyOctets m)

-- Each signer signs the type of the content, and the octets of the lists are these lists.
abbrev pub SignsAll : Parts → Type 0
SignsAll p = All (λ s. SignsType p.0.0.0 (signer_fields s)) p.1.signers.items

pub record Agrees (p : Parts) (crls : List CrlValue) : Type 0 where
  pub same_type : SignsAll p
  pub lists : AreListsIn (option_map octets_of p.1.lists) crls

-- The object of the parts, with these lists.
abbrev pub multi_with : Parts → List CrlValue → Multi
multi_with p crls = record {
  content_type = p.0.0.0;
  content = p.0.1;
  certs = p.1.certs.items;
  crls = crls;
  signers = map signer_of (map signer_fields p.1.signers.items);
}

-- The parts agree, with the lists that the object has, or with none.
pub record GivesMulti (p : Parts) (o : Multi) : Type 0 where
  pub crls : List CrlValue
  pub agrees : Agrees p crls
  pub says : o ≡ multi_with p crls

abbrev pub MakesMulti : {E : Type 0} → Parts → Result Multi (DecodeError E) → Type 0
MakesMulti p (Ok o) = GivesMulti p o
MakesMulti p (Err e) = OnContent e ((crls : List CrlValue) → Agrees p crls → ⊥)

-- The signed object in front of the octets, or there is none.
abbrev pub DecodesMulti : {E : Type 0} → Bool → List ℕ → Result Multi (DecodeError E) → Type 0
DecodesMulti strict octets (Ok o) = MultiText strict octets o
DecodesMulti strict octets (Err e) = OnContent e ((o : Multi) → MultiText strict octets o → ⊥)
