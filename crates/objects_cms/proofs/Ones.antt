-- Octets have one frame of a signed object in front at most, and its fields are read in one way.
use Rattle.std.proofs.Common.{◌≡◌, ap, Option, Some, None}
use Rattle.objects_cms.specs.bcder_tree.declared.mode.Mode.{Mode}
use Rattle.objects_cms.specs.bcder_tree.Tags.{context}
use Rattle.objects_cms.specs.bcder_tree.Strings.{octet_string_tag}
use Rattle.objects_cms.specs.bcder_tree.Tree.{Trees}
use Rattle.objects_cms.specs.bcder_content.Grammar.{OneAll}
use Rattle.objects_cms.proofs.of_bcder_content.Fronts.{OneFront, joins_one, none_one, octets_too_before, order_one, spells_one, wraps_one}
use Rattle.objects_cms.proofs.of_bcder_content.Simple.{unit_one}
use Rattle.objects_cms.proofs.of_bcder_content.Unique.{end_one, inside_one, octets_one, then_one}
use Rattle.certs_cert.proofs.of_certs_key.Meanings.{cms_one, digest_one, digests_one}
use Rattle.objects_cms.proofs.AttributesTold.{attributes_by_slots}
use Rattle.objects_cms.proofs.AttributeOnes.{oid_value_one, slots_one, string_value_one}
use Rattle.objects_cms.specs.Kept.{slots_of}
use Rattle.objects_cms.specs.declared.attributes.slots.Slots.{Slots}
use Rattle.objects_cms.proofs.of_certs_basics.Values.{key_identifier_one, string_one}
use Rattle.objects_cms.proofs.of_certs_extension.Certs.{spelled_cert_one}
use Rattle.objects_cms.specs.objects_payload.SignedAttributes.{AreAttributes, AttributesValue}
use Rattle.objects_cms.specs.objects_payload.ObjectText.{SpellsContentInfo, SpellsSignedData, SpellsSigner}

-- What an option has, where it has something.
held_in : {A : Type 0} → A → Option A → A
held_in other None = other
held_in other (Some x) = x

same_some : {A : Type 0} {x y : A} → Some x ≡ Some y → x ≡ y
unfolding held_in
same_some {x = x} e = ap (held_in x) e

attributes_one : {m : Mode} → OneAll (AreAttributes m)
attributes_one {m} = record { one = at }
  where
    same : (x y : AttributesValue) → slots_of x ≡ slots_of y → x ≡ y
    same x y e =
        let kind : x.content_type ≡ y.content_type = ap (λ o. o.0) (same_some (ap (λ (s : Slots). s.content_type) e)) in
        let digest : x.digest ≡ y.digest = same_some (ap (λ (s : Slots). s.message_digest) e) in
        let time : x.signing_time ≡ y.signing_time = ap (λ (s : Slots). s.signing_time) e in
        let seconds : x.binary_signing_time ≡ y.binary_signing_time = ap (λ (s : Slots). s.binary_signing_time) e in
        λ i. record { content_type = kind i; digest = digest i; signing_time = time i; binary_signing_time = seconds i }

    at : (ts : Trees) (x y : AttributesValue) → AreAttributes m ts x → AreAttributes m ts y → x ≡ y
    at ts x y p q = same x y ((slots_one m).one ts (slots_of x) (slots_of y) (attributes_by_slots p) (attributes_by_slots q))

pub signer_one : {m : Mode} → OneFront (SpellsSigner m)
signer_one {m} =
    wraps_one
    (joins_one (spells_one (octets_one unit_one))
    (joins_one (spells_one (key_identifier_one m (context 0)))
    (joins_one (spells_one digest_one)
    (joins_one (wraps_one (octets_too_before (order_one attributes_one)))
    (joins_one (spells_one cms_one)
    (joins_one (spells_one (string_one m octet_string_tag))
    none_one))))))

signed_data_one : {m : Mode} → OneFront (SpellsSignedData m)
signed_data_one {m} =
    wraps_one
    (joins_one (spells_one (octets_one unit_one))
    (joins_one (spells_one digests_one)
    (joins_one (spells_one (inside_one (then_one oid_value_one (then_one (inside_one (then_one (string_value_one m) end_one)) end_one))))
    (joins_one (wraps_one (joins_one spelled_cert_one none_one))
    (joins_one (wraps_one (joins_one signer_one none_one))
    none_one)))))

pub frame_one : {m : Mode} → OneFront (SpellsContentInfo m)
frame_one = wraps_one (joins_one (spells_one (octets_one unit_one)) (joins_one (wraps_one (joins_one signed_data_one none_one)) none_one))
