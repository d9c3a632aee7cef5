-- Subject information access: where an authority publishes (RFC 6487 4.8.8, RFC 8182 3.2).
use Rattle.std.specs.Prelude.{◌≡◌, ◌⊎◌, ◌≢◌, ℕ, List, [], ◌∷◌, Option, Some, None}
use Rattle.certs_extension.specs.bcder_tree.declared.mode.Mode.{Mode}
use Rattle.certs_extension.specs.bcder_tree.Tags.{oid_tag, sequence_tag}
use Rattle.certs_extension.specs.bcder_tree.Tree.{Tree, Trees}
use Rattle.certs_extension.specs.bcder_content.Grammar.{Inside, OctetsOf, As, End, Then}
use Rattle.certs_extension.specs.bcder_content.Words.{ThenBy, Gathers}
use Rattle.certs_extension.specs.bcder.Identifiers.{IsOid}
use Rattle.certs_basics.specs.Lists.{Mem}
use Rattle.certs_basics.specs.Uris.{IsRsync, IsHttps}
use Rattle.certs_extension.specs.Grammars.{IsName}
use Rattle.certs_basics.specs.Identifiers as id

-- The first readable URI of each method; https for rpkiNotify, rsync for the others.
pub record AccessValue : Type 0 where
  pub repository : Option (List ℕ)
  pub manifest : Option (List ℕ)
  pub object : Option (List ℕ)
  pub notify : Option (List ℕ)

-- No URI of any method.
abbrev pub no_access : AccessValue
no_access = record { repository = None; manifest = None; object = None; notify = None }

-- A method, and its name where the method is one of the four.
pub record Entry : Type 0 where
  pub method : List ℕ
  pub name : Option (List ℕ)

abbrev pub methods : List (List ℕ)
methods = id.ca_repository ∷ id.rpki_manifest ∷ id.signed_object ∷ id.rpki_notify ∷ []

-- What stands after a method: of one of the four exactly one name, of another anything.
pub data AreLocation : Mode → List ℕ → Trees → Option (List ℕ) → Type 0 where
  of_known : {m : Mode} {method : List ℕ} {ts : Trees} {text : List ℕ} → Mem methods method
      → Then (IsName m) End ts (text, tt) → AreLocation m method ts (Some text)
  of_other : {m : Mode} {method : List ℕ} {ts : Trees} → (Mem methods method → ⊥)
      → AreLocation m method ts None

-- AccessDescription ::= SEQUENCE { accessMethod OBJECT IDENTIFIER, accessLocation [6] IMPLICIT IA5String } (RFC 5280 4.2.2.2)
abbrev pub as_entry : List ℕ × Option (List ℕ) → Entry
as_entry x = record { method = x.0; name = x.1 }

abbrev pub IsEntryBody : Mode → Trees → List ℕ × Option (List ℕ) → Type 0
IsEntryBody m = ThenBy (OctetsOf oid_tag IsOid) (AreLocation m)

abbrev pub IsEntry : Mode → Tree → Entry → Type 0
IsEntry m = As (Inside sequence_tag (IsEntryBody m)) as_entry

-- The entry is of that method and has a URI of the form P.
pub record HasUri (P : List ℕ → Type 0) (method : List ℕ) (e : Entry) (uri : List ℕ) : Type 0 where
  pub method_is : e.method ≡ method
  pub name_is : e.name ≡ Some uri
  pub readable : P uri

-- The first URI of the form P for that method, if there is one.
abbrev pub IsFirst : (List ℕ → Type 0) → List ℕ → List Entry → Option (List ℕ) → Type 0
IsFirst P method [] found = found ≡ None
IsFirst P method (e ∷ es) found =
    ((uri : List ℕ) × HasUri P method e uri × (found ≡ Some uri))
    ⊎ (((uri : List ℕ) → HasUri P method e uri → ⊥) × IsFirst P method es found)

-- SubjectInfoAccessSyntax ::= SEQUENCE SIZE (1..MAX) OF AccessDescription (RFC 5280 4.2.2.2)
pub record AreAccess (entries : List Entry) (a : AccessValue) : Type 0 where
  pub some : entries ≢ []
  pub repository : IsFirst IsRsync id.ca_repository entries a.repository
  pub manifest : IsFirst IsRsync id.rpki_manifest entries a.manifest
  pub object : IsFirst IsRsync id.signed_object entries a.object
  pub notify : IsFirst IsHttps id.rpki_notify entries a.notify

abbrev pub IsAccessBody : Mode → Trees → AccessValue → Type 0
IsAccessBody m = Gathers (IsEntry m) AreAccess

abbrev pub IsSubjectAccess : Mode → Tree → AccessValue → Type 0
IsSubjectAccess m = Inside sequence_tag (IsAccessBody m)
