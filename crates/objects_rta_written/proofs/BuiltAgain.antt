-- What is written of an attestation that was put together is read again.
use Rattle.std.proofs.Common.{◌≡◌, ℕ, List, [], Option, Some, None, true, refl, sym, ap, ◌∙◌, subst, append-nil}
use Rattle.objects_written.specs.bcder_tree.declared.mode.Mode.TheVariants.{Der}
use Rattle.objects_written.specs.bcder_content.Texts.{InOrder, SpellsOf}
use Rattle.objects_written.specs.bcder.Identifiers.{IsIdentifier}
use Rattle.objects_written.specs.certs_basics.Basics.{IsTwentyLong}
use Rattle.objects_written.specs.objects_payload.ObjectText.{Signer}
use Rattle.objects_written.specs.objects_payload.SignedAttributes.{AreAttributes, AttributesValue}
use Rattle.objects_written.specs.Attributes.{ToSign, attributes_of}
use Rattle.objects_written.proofs.Again.{attributes_again}
use Rattle.objects_rta.specs.Attestations.{Attestation, AttestationText, IsAttestation}
use Rattle.objects_rta.specs.MultiText.{Multi, MultiText}
use Rattle.objects_rta_written.specs.Again.{IsReadable as IsReadableObject, IsReadableSigner, WritesAgain, said_of, with_null}
use Rattle.objects_rta_written.specs.Builders.{Draft, IsBegun, Tells, object_of}
use Rattle.objects_rta_written.specs.Contents.{IsReadable, attestation}

pub document_again : ((o : Multi) (text : List ℕ) → IsReadableObject o → WritesAgain o text → MultiText true text (with_null o))
    → (b : Draft) (text : List ℕ) → IsReadableObject (object_of b) → SpellsOf Der (IsAttestation Der) b.octets b.content → WritesAgain (object_of b) text
    → AttestationText true text (with_null (object_of b)) b.content
document_again again b text r s w = record {
  object = again (object_of b) text r w;
  type_is = refl;
  content_is = record { text = b.octets; rest = []; whole = sym (append-nil b.octets); is = s };
}

pub begun_says : ((a : Attestation) (text : List ℕ) → IsReadable a → (attestation a).writes Der text → SpellsOf Der (IsAttestation Der) text a)
    → (a : Attestation) (b : Draft) → IsReadable a → IsBegun a b → SpellsOf Der (IsAttestation Der) b.octets b.content
begun_says again a b r g = subst (λ (x : Attestation). SpellsOf Der (IsAttestation Der) b.octets x) (sym g.content) (again a b.octets r g.octets)

pub signer_tells : (s : ToSign) (x : Signer) → IsIdentifier s.content_type → IsTwentyLong x.sid → Tells s x → IsReadableSigner s.content_type x
signer_tells s x known long t =
    let same : attributes_of s ≡ said_of s.content_type x =
    ap (λ (d : List ℕ). (let a : AttributesValue = record { content_type = s.content_type; digest = d; signing_time = Some s.time; binary_signing_time = None } in a)) (sym t.digest)
    ∙ ap (λ (o : Option ℕ). (let a : AttributesValue = record { content_type = s.content_type; digest = x.digest; signing_time = o; binary_signing_time = None } in a)) (sym t.time)
    ∙ ap (λ (o : Option ℕ). (let a : AttributesValue = record { content_type = s.content_type; digest = x.digest; signing_time = x.signing_time; binary_signing_time = o } in a)) (sym t.binary_time) in
    record { long = long; attributes = subst (λ (a : AttributesValue). InOrder Der (AreAttributes Der) x.attributes a) same (attributes_again s x.attributes known t.attributes) }
