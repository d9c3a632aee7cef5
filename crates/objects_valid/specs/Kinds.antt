-- Signed objects with what their contents say, and what readers of them answer.
use Rattle.std.specs.Prelude.{◌≡◌, Bool, ℕ, List, Result, Ok, Err}
use Rattle.objects_cms.specs.bcder_source.Errors.{OnContent}
use Rattle.objects_cms.specs.bcder_source.declared.error.DecodeError.{DecodeError}
use Rattle.objects_cms.specs.objects_payload.ObjectText.{Object, ObjectText}

-- A signed object, and what its content says.
pub record KindValue (A : Type 0) : Type 0 where
  pub signed : Object
  pub content : A

-- The object with its content in front of the octets, or there is none. P says which octets are such an object.
abbrev pub DecodesKind : {A E : Type 0} → (Bool → List ℕ → Object → A → Type 0) → Bool → List ℕ
    → Result (KindValue A) (DecodeError E) → Type 0
DecodesKind P strict octets (Ok k) = P strict octets k.signed k.content
DecodesKind {A} P strict octets (Err e) =
    OnContent e ((o : Object) (x : A) → P strict octets o x → ⊥)

-- The octets are that object, of that type of content, and these are its content's.
pub record IsTyped (content_type : List ℕ) (strict : Bool) (octets : List ℕ) (o : Object)
    (content : List ℕ) : Type 0 where
  pub object : ObjectText strict octets o
  pub type_is : o.content_type ≡ content_type
  pub content_is : content ≡ o.content

-- The object of that type of content in front of the octets, with its content's octets, or there is none.
abbrev pub DecodesTyped : {E : Type 0} → List ℕ → Bool → List ℕ
    → Result (Object × List ℕ) (DecodeError E) → Type 0
DecodesTyped content_type strict octets (Ok p) = IsTyped content_type strict octets p.0 p.1
DecodesTyped content_type strict octets (Err e) =
    OnContent e ((o : Object) → ObjectText strict octets o → o.content_type ≡ content_type → ⊥)
