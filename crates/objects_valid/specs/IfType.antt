-- What a reader of signed objects answers that is asked for a type of content (RFC 6488 2.1.3.1).
use Rattle.std.specs.Prelude.{◌≡◌, Bool, ℕ, List, Result, Ok, Err}
use Rattle.objects_cms.specs.bcder_source.Errors.{OnContent}
use Rattle.objects_cms.specs.bcder_source.declared.error.DecodeError.{DecodeError}
use Rattle.objects_valid.specs.objects_payload.ObjectText.{Object, ObjectText}

-- The octets are that object, whose content is of that type.
pub record IsOfType (content_type : List ℕ) (strict : Bool) (octets : List ℕ) (o : Object)
    : Type 0 where
  pub object : ObjectText strict octets o
  pub type_is : o.content_type ≡ content_type

-- The object in front of the octets, with that type of content, or there is none.
abbrev pub DecodesIfType : {A E : Type 0} → (A → Object) → List ℕ → Bool → List ℕ
    → Result A (DecodeError E) → Type 0
DecodesIfType f content_type strict octets (Ok x) = IsOfType content_type strict octets (f x)
DecodesIfType f content_type strict octets (Err e) =
    OnContent e ((o : Object) → IsOfType content_type strict octets o → ⊥)
