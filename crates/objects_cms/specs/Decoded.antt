-- What the readers of signed objects answer, by octets: in BER a value doesn't tell the octets that are signed.
use Rattle.std.specs.Prelude.{◌≡◌, Bool, ℕ, List, Result, Ok, Err}
use Rattle.objects_cms.specs.bcder_tree.declared.mode.Mode.{Mode}
use Rattle.objects_cms.specs.bcder_source.Errors.{OnContent}
use Rattle.objects_cms.specs.bcder_source.declared.error.DecodeError.{DecodeError}
use Rattle.objects_cms.specs.bcder_content.Contents.{Goes, ValuesLeft}
use Rattle.certs_cert.specs.certs_x509.Took.{TookOctets}
use Rattle.objects_cms.specs.objects_payload.ObjectText.{Object, ObjectText}
use Rattle.objects_cms.specs.Frame.{Parts}

-- No octets of P are next in the content.
pub record LacksOctets {A : Type 0} (P : Mode → List ℕ → A → Type 0) (old : ValuesLeft)
    : Type 0 where
  pub none : (text : List ℕ) (x : A) (behind : ValuesLeft) → Goes old text behind
      → P old.mode text x → ⊥

-- A reader of octets: those that it read are of P, and where it refuses none of P are next.
abbrev pub ReadsOctets : {A B E : Type 0} → (A → B) → (Mode → List ℕ → B → Type 0) → ValuesLeft
    → Result A (DecodeError E) → ValuesLeft → Type 0
ReadsOctets f P old (Ok x) new = TookOctets f P old x new
ReadsOctets f P old (Err e) new = OnContent e (LacksOctets P old)

-- The signed object in front of the octets, or there is none.
abbrev pub DecodesObject : {E : Type 0} → Bool → List ℕ → Result Object (DecodeError E) → Type 0
DecodesObject strict octets (Ok o) = ObjectText strict octets o
DecodesObject strict octets (Err e) = OnContent e ((o : Object) → ObjectText strict octets o → ⊥)

-- The attribute for the content's type has that type, and the signer's key is the certificate's (RFC 6488 2.1.6).
pub record Agrees (p : Parts) : Type 0 where
  pub same_type : p.2.attributes.1.content_type ≡ p.0.0.0
  pub own : p.2.sid ≡ p.1.tbs.subject_key_identifier
