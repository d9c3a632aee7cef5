-- The attributes that a signer signs (RFC 5652 5.3, 11; RFC 6488 2.1.6.4, RFC 6019).
use Rattle.std.specs.Prelude.{ℕ, ◌^◌, List, [], ◌∷◌, Option, Some, None, filter, bytes_eq, Contains, All}
use Rattle.objects_payload.specs.bcder_tree.declared.mode.Mode.{Mode}
use Rattle.objects_payload.specs.bcder_tree.Tags.{integer_tag, oid_tag, sequence_tag, set_tag}
use Rattle.objects_payload.specs.bcder_tree.Tree.{Tree, Trees}
use Rattle.objects_payload.specs.bcder_tree.Strings.{IsOctetString}
use Rattle.objects_payload.specs.bcder_primitive.Values.{IsUnsigned}
use Rattle.objects_payload.specs.bcder.Identifiers.{IsOid}
use Rattle.objects_payload.specs.bcder_content.Grammar.{OctetsOf, Inside, As, Then, End}
use Rattle.objects_payload.specs.bcder_content.Words.{Itself, Gathers}
use Rattle.objects_payload.specs.certs_basics.Forms.{IsTime}
use Rattle.objects_payload.specs.Identifiers as id

-- An attribute's identifier, and its one value.
pub record Attribute : Type 0 where
  pub kind : List ℕ
  pub value : Tree

abbrev pub AttributeFields : Type 0
AttributeFields = List ℕ × ((Tree × Unit {0}) × Unit {0})

abbrev pub attribute_of : AttributeFields → Attribute
attribute_of f = record { kind = f.0; value = f.1.0.0 }

-- Attribute ::= SEQUENCE { attrType OBJECT IDENTIFIER, attrValues SET OF AttributeValue }, with one value (RFC 6488 2.1.6.4)
abbrev pub IsAttribute : Tree → Attribute → Type 0
IsAttribute = As (Inside sequence_tag (Then (OctetsOf oid_tag IsOid)
    (Then (Inside set_tag (Then Itself End)) End))) attribute_of

abbrev pub those_of : List ℕ → List Attribute → List Attribute
those_of kind all = filter (λ a. bytes_eq a.kind kind) all

-- None of the list, and no value; or one, which is of Q.
abbrev pub IsOnce : {A : Type 0} → (Tree → A → Type 0) → List Attribute → Option A → Type 0
IsOnce Q [] None = Unit {0}
IsOnce Q [] (Some x) = ⊥
IsOnce Q (a ∷ []) None = ⊥
IsOnce Q (a ∷ []) (Some x) = Q a.value x
IsOnce Q (a ∷ b ∷ xs) x = ⊥

-- BinaryTime ::= INTEGER (0..MAX), here below 2^64 (RFC 6019 2)
abbrev pub IsBinaryTime : Tree → ℕ → Type 0
IsBinaryTime = OctetsOf integer_tag (IsUnsigned (2 ^ 64))

abbrev pub kinds : List (List ℕ)
kinds = id.content_type ∷ id.message_digest ∷ id.signing_time ∷ id.binary_signing_time ∷ []

-- What the attributes say.
pub record AttributesValue : Type 0 where
  pub content_type : List ℕ
  pub digest : List ℕ
  pub signing_time : Option ℕ
  pub binary_signing_time : Option ℕ

-- Content type and digest once each, the two times at most once each, and no other (RFC 6488 2.1.6.4).
pub record AreSigned (m : Mode) (all : List Attribute) (s : AttributesValue) : Type 0 where
  pub no_other : All (λ a. Contains kinds a.kind) all
  pub content_type : IsOnce (OctetsOf oid_tag IsOid) (those_of id.content_type all)
      (Some s.content_type)
  pub digest : IsOnce (IsOctetString m) (those_of id.message_digest all) (Some s.digest)
  pub signing_time : IsOnce IsTime (those_of id.signing_time all) s.signing_time
  pub binary_signing_time : IsOnce IsBinaryTime
      (those_of id.binary_signing_time all) s.binary_signing_time

-- signedAttrs [0] IMPLICIT SET OF Attribute (RFC 5652 5.3)
abbrev pub AreAttributes : Mode → Trees → AttributesValue → Type 0
AreAttributes m = Gathers IsAttribute (AreSigned m)
