-- How a revocation list is read: its fields, with its two extensions by their octets, and then what these say.
use Rattle.std.specs.Prelude.{◌≡◌, ◌⊎◌, ℕ, Bool, List, [], ◌∷◌, Option, Some, Result, Ok, Err}
use Rattle.certs_crl.specs.bcder_tree.declared.mode.Mode.{Mode}
use Rattle.certs_crl.specs.bcder_tree.Tags.{context, sequence_tag}
use Rattle.certs_crl.specs.bcder_tree.Tree.{Tree, Trees}
use Rattle.certs_crl.specs.bcder_source.Errors.{OnContent}
use Rattle.certs_crl.specs.bcder_source.declared.error.DecodeError.{DecodeError}
use Rattle.certs_crl.specs.bcder_content.Grammar.{Inside, Then, Opt, End, Where}
use Rattle.certs_crl.specs.bcder_content.Kept.{CapturedValue}
use Rattle.certs_crl.specs.bcder_content.Texts.{InOrder, Joins, ReadsFront, SpellsOf, Wraps}
use Rattle.certs_crl.specs.Fields.{ListOf, as_list}
use Rattle.certs_crl.specs.certs_basics.Basics.{IsSerial, IsAlgorithm}
use Rattle.certs_crl.specs.certs_basics.Identifiers as id
use Rattle.certs_crl.specs.certs_basics.Names.{IsKeptName, SpellsName}
use Rattle.certs_crl.specs.certs_basics.Forms.{IsTime}
use Rattle.certs_crl.specs.certs_extension.Raw.{extension_value}
use Rattle.certs_crl.specs.certs_extension.declared.extension.Extension.{Extension as Raw}
use Rattle.certs_x509.specs.certs_extension.CertText.{IsVersion}
use Rattle.certs_x509.specs.certs_extension.CrlText.{AreRevoked, RevokedValue, TbsListValue, entries}
use Rattle.certs_x509.specs.certs_extension.Extensions.{Extension, IsAuthorityKeyIdentifier, IsExtension, IsOptional, May, of_kind}

-- A value that stands alone in a content.
abbrev pub alone : {A : Type 0} → A → A × Unit {0}
alone x = (x, tt)

-- One of the two extensions of a list: authorityKeyIdentifier or cRLNumber (RFC 6487 5).
abbrev pub IsOfList : Extension → Type 0
IsOfList e = (e.kind ≡ id.authority_key_identifier) ⊎ (e.kind ≡ id.crl_number)

abbrev pub IsListExtension : Mode → Tree → Extension → Type 0
IsListExtension m = Where (IsExtension m) IsOfList

-- Nothing further.
abbrev pub IsNoMore : Mode → Trees → Unit {0} → Type 0
IsNoMore m = End

-- Two extensions.
abbrev pub Pair : Type 0
Pair = Extension × (Extension × Unit {0})

abbrev pub IsPair : Mode → Trees → Pair → Type 0
IsPair m = Then (IsListExtension m) (Then (IsListExtension m) End)

abbrev pub pair_fields : Raw × Raw → Pair
pair_fields x = (extension_value x.0, (extension_value x.1, tt))

abbrev pub list_of : Pair → List Extension
list_of p = p.0 ∷ p.1.0 ∷ []

-- crlExtensions [0] EXPLICIT SEQUENCE OF Extension, by its content
abbrev pub IsPaired : Mode → Trees → Pair × Unit {0} → Type 0
IsPaired m = Then (Inside sequence_tag (IsPair m)) End

-- revokedCertificates OPTIONAL, crlExtensions (RFC 5280 5.1)
abbrev pub TailFields : Type 0
TailFields = Option (List RevokedValue) × ((Pair × Unit {0}) × Unit {0})

abbrev pub IsTail : Mode → Trees → TailFields → Type 0
IsTail m = Opt sequence_tag AreRevoked (Then (Inside (context 0) (IsPaired m)) End)

abbrev pub tail_fields : Option (List RevokedValue) × (Raw × Raw) → TailFields
tail_fields x = (x.0, (alone (pair_fields x.1), tt))

-- version, signature AlgorithmIdentifier, issuer Name, thisUpdate, nextUpdate, and what comes after them (RFC 5280 5.1)
abbrev pub ReadFields : Type 0
ReadFields = Unit {0} × (Bool × (CapturedValue × (ℕ × (ℕ × TailFields))))

abbrev pub IsReadBody : Mode → Trees → ReadFields → Type 0
IsReadBody m = Then (IsVersion 1) (Then IsAlgorithm
    (Then (IsKeptName m) (Then IsTime (Then IsTime (IsTail m)))))

abbrev pub IsRead : Mode → Tree → ReadFields → Type 0
IsRead m = Inside sequence_tag (IsReadBody m)

abbrev pub Listed : Type 0
Listed = Bool × CapturedValue × ℕ × ℕ × (Option (List RevokedValue) × (Raw × Raw))

abbrev pub read_fields : Listed → ReadFields
read_fields x = (tt, (x.0, (x.1, (x.2, (x.3, tail_fields x.4)))))

-- By their octets, from the outermost value down to the name, which is the very octets that stand there.
abbrev pub SpellsReadBody : Mode → List ℕ → ReadFields → Type 0
SpellsReadBody m = Joins (SpellsOf m (IsVersion 1)) (Joins (SpellsOf m IsAlgorithm)
    (Joins (SpellsName m) (InOrder m (Then IsTime (Then IsTime (IsTail m))))))

abbrev pub SpellsRead : Mode → List ℕ → ReadFields → Type 0
SpellsRead m = Wraps m sequence_tag (SpellsReadBody m)

-- The two extensions.
abbrev pub pair_of : ReadFields → Pair
pair_of f = f.1.1.1.1.1.1.0.0

-- The identifier of the issuer's key and the list's number, once each (RFC 6487 5).
pub record SaysBoth (all : List Extension) (key : List ℕ) (number : ℕ) : Type 0 where
  pub key_is : IsOptional May IsAuthorityKeyIdentifier (of_kind id.authority_key_identifier all)
      (Some key)
  pub number_is : IsOptional May IsSerial (of_kind id.crl_number all) (Some number)

abbrev pub ReadsBoth : {E : Type 0} → List Extension → Result (List ℕ × ℕ) (DecodeError E) → Type 0
ReadsBoth all (Ok x) = SaysBoth all x.0 x.1
ReadsBoth all (Err e) = OnContent e ((key : List ℕ) (number : ℕ) → SaysBoth all key number → ⊥)

-- The octets of one extension begin with a key identifier, those of the other with a number.
pub record AreFronts (key number : List ℕ) (x : List ℕ × ℕ) : Type 0 where
  pub key_is : ReadsFront IsAuthorityKeyIdentifier key x.0
  pub number_is : ReadsFront IsSerial number x.1

abbrev pub ReadsFronts : {E : Type 0} → List ℕ → List ℕ → Result (List ℕ × ℕ) (DecodeError E)
    → Type 0
ReadsFronts key number (Ok x) = AreFronts key number x
ReadsFronts key number (Err e) = OnContent e ((x : List ℕ × ℕ) → AreFronts key number x → ⊥)

-- What is signed, where the extensions say both.
pub record SaysRead (f : ReadFields) (c : TbsListValue) : Type 0 where
  pub has_null : c.has_null ≡ f.1.0
  pub issuer : c.issuer ≡ f.1.1.0
  pub this_update : c.this_update ≡ f.1.1.1.0
  pub next_update : c.next_update ≡ f.1.1.1.1.0
  pub revoked : c.revoked ≡ entries f.1.1.1.1.1.0
  pub extensions : SaysBoth (list_of f.1.1.1.1.1.1.0.0) c.authority_key_identifier c.number

abbrev pub Finishes : {E : Type 0} → ReadFields
    → Result (ListOf (List RevokedValue)) (DecodeError E) → Type 0
Finishes f (Ok t) = SaysRead f (as_list t)
Finishes f (Err e) =
    OnContent e ((key : List ℕ) (number : ℕ) → SaysBoth (list_of (pair_of f)) key number → ⊥)
