-- Contents of signed objects.
use Rattle.std.specs.Prelude.{◌≡◌, ℕ, Bool, List, Option}
use Rattle.objects_payload.specs.bcder_tree.Tags.{context}
use Rattle.objects_payload.specs.bcder_tree.Tree.{Tree, Trees}
use Rattle.objects_payload.specs.bcder_content.Grammar.{Inside, Then, Opt, End}
use Rattle.objects_payload.specs.bcder_content.Texts.{ReadsFront}
use Rattle.objects_payload.specs.certs_extension.CertText.{IsVersion as IsInteger}
use Rattle.objects_payload.specs.ObjectText.{Object, ObjectText}

-- [0] EXPLICIT INTEGER of that value
abbrev pub IsVersion : ℕ → Tree → Unit {0} × Unit {0} → Type 0
IsVersion n = Inside (context 0) (Then (IsInteger n) End)

-- version [0] EXPLICIT INTEGER DEFAULT 0, which may be written out, and then R
abbrev pub VersionZero : {A : Type 0} → (Trees → A → Type 0) → Trees → Option (Unit {0} × Unit {0})
    × A → Type 0
VersionZero R = Opt (context 0) (IsVersion 0) R

-- The octets read as an object of that content type, whose content begins with a value of Q; the content is DER in both
-- modes (RFC 6488 2.1.3.2).
pub record ReadsAs {A : Type 0} (content_type : List ℕ) (Q : Tree → A → Type 0) (strict : Bool)
    (octets : List ℕ) (o : Object) (x : A) : Type 0 where
  pub object : ObjectText strict octets o
  pub type_is : o.content_type ≡ content_type
  pub content_is : ReadsFront Q o.content x
