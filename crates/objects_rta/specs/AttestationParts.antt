-- Attestations, by what is read of them.
use Rattle.std.specs.Prelude.{◌≡◌, Bool, ℕ, List, Result, Ok, Err}
use Rattle.std.specs.Option.{option_map}
use Rattle.objects_cms.specs.bcder_tree.declared.mode.Mode.{Mode}
use Rattle.objects_cms.specs.bcder_tree.Strings.{IsOctetString}
use Rattle.objects_cms.specs.bcder_tree.Tree.{Trees}
use Rattle.objects_cms.specs.bcder_source.Errors.{OnContent}
use Rattle.objects_cms.specs.bcder_source.declared.error.DecodeError.{DecodeError}
use Rattle.objects_cms.specs.bcder_content.Grammar.{End, Then}
use Rattle.objects_cms.specs.objects_payload.Fields.{alone}
use Rattle.objects_cms.specs.objects_payload.Identifiers.{IsDigestAlgorithm}
use Rattle.objects_valid.specs.Stated.{IsStated, Stated}
use Rattle.objects_valid.specs.declared.stated.AsForm.TheVariants.{BlocksAlone}
use Rattle.objects_rta.specs.declared.attestation.content.Behind.{Behind}
use Rattle.objects_rta.specs.declared.attestation.content.Parts.{Parts}
use Rattle.objects_rta.specs.Attestations.{Attestation, AttestationText, Fields, tagged_attestation}
use Rattle.objects_rta.specs.MultiText.{Multi, MultiText}

-- The digest's algorithm and the digest.
abbrev pub DigestFields : Type 0
DigestFields = Unit {0} × (List ℕ × Unit {0})

abbrev pub digest_fields : List ℕ → DigestFields
digest_fields digest = (tt, (digest, tt))

abbrev pub AreDigest : Mode → Trees → DigestFields → Type 0
AreDigest m = Then IsDigestAlgorithm (Then (IsOctetString m) End)

-- What stands behind the keys.
abbrev pub BehindFields : Type 0
BehindFields = Stated × DigestFields

abbrev pub behind_fields : Behind → BehindFields
behind_fields b = (b.resources, digest_fields b.digest)

abbrev pub AreBehind : Mode → Trees → BehindFields → Type 0
AreBehind m = Then (IsStated BlocksAlone m) (AreDigest m)

-- All that is read.
abbrev pub parts_fields : Parts → Fields
parts_fields p = (option_map alone p.version, (p.keys.items, behind_fields p.behind))

-- An object with its content.
pub record RtaValue : Type 0 where
  pub signed : Multi
  pub content : Attestation

-- The object whose content is of the type of attestations, with the octets of its content, or there is none.
pub record IsTyped (strict : Bool) (octets : List ℕ) (o : Multi) (content : List ℕ) : Type 0 where
  pub object : MultiText strict octets o
  pub type_is : o.content_type ≡ tagged_attestation
  pub content_is : content ≡ o.content

abbrev pub DecodesTyped : {E : Type 0} → Bool → List ℕ
    → Result (Multi × List ℕ) (DecodeError E) → Type 0
DecodesTyped strict octets (Ok p) = IsTyped strict octets p.0 p.1
DecodesTyped strict octets (Err e) =
    OnContent e ((o : Multi) → MultiText strict octets o → o.content_type ≡ tagged_attestation → ⊥)

-- The attestation in front of the octets, or there is none.
abbrev pub DecodesAttestation : {E : Type 0} → Bool → List ℕ
    → Result RtaValue (DecodeError E) → Type 0
DecodesAttestation strict octets (Ok r) = AttestationText strict octets r.signed r.content
DecodesAttestation strict octets (Err e) =
    OnContent e ((o : Multi) (x : Attestation) → AttestationText strict octets o x → ⊥)
