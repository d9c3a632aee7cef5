-- Signed objects by their octets: what is one in DER is the same in BER, and no other.
use Rattle.std.proofs.Common.{ap, ℕ, List, false}
use Rattle.objects_payload.specs.bcder_tree.declared.mode.Mode.TheVariants.{Ber, Der}
use Rattle.objects_payload.specs.bcder_tree.Tags.{context}
use Rattle.objects_payload.specs.bcder_tree.Tree.{Tree}
use Rattle.objects_payload.specs.bcder_tree.Strings.{octet_string_tag}
use Rattle.objects_payload.specs.bcder_content.Grammar.{One}
use Rattle.objects_payload.specs.ObjectText.{ObjectFields, SignedFields, SpellsContentInfo, SpellsObject, SpellsSignedData, SpellsSigner}
use Rattle.objects_payload.specs.Contents.{ReadsAs}
use Rattle.objects_payload.specs.Manifests.{ManifestText}
use Rattle.objects_payload.specs.Roas.{RoaText}
use Rattle.objects_payload.specs.Aspas.{AspaText}
use Rattle.objects_payload.proofs.Objects.{one_aspa, one_manifest, one_object, one_roa, reads_as_one}
use Rattle.objects_payload.specs.Forms.{Carries, KeepsInBer}
use Rattle.objects_payload.specs.Relaxed.{relaxed, relaxed_cert}
use Rattle.objects_payload.specs.RelaxedLaws.{ObjectsStay, ObjectsStayAlone, Stays, StaysAlone}
use Rattle.objects_payload.proofs.RelaxedForms.{same, front_carries, inside_within, joins_carries, octets_too, order_within, spells_within, such_within, then_within, wraps_carries}
use Rattle.objects_payload.proofs.RelaxedValues.{attributes_kept, string_kept}
use Rattle.objects_payload.proofs.RelaxedCerts.{certs_stay}

pub signer_kept : KeepsInBer SpellsSigner
signer_kept =
    wraps_carries
    (joins_carries (spells_within same)
    (joins_carries (spells_within (such_within (string_kept (context 0))))
    (joins_carries (spells_within same)
    (joins_carries (wraps_carries (octets_too (order_within attributes_kept)))
    (joins_carries (spells_within same)
    (joins_carries (spells_within (string_kept octet_string_tag))
    same))))))

-- The fields of an object, whose certificate is in BER.
abbrev relaxed_signed : SignedFields → SignedFields
relaxed_signed f = (f.0, (f.1.0, (f.1.1.0, ((relaxed_cert f.1.1.1.0.0, f.1.1.1.0.1), f.1.1.1.1))))

abbrev relaxed_fields : ObjectFields → ObjectFields
relaxed_fields f = (f.0, ((relaxed_signed f.1.0.0, f.1.0.1), f.1.1))

signed_stays : Carries relaxed_signed (SpellsSignedData Der) (SpellsSignedData Ber)
signed_stays =
    wraps_carries
    (joins_carries (spells_within same)
    (joins_carries (spells_within same)
    (joins_carries (spells_within (inside_within (then_within same (then_within (inside_within (then_within (string_kept octet_string_tag) same)) same))))
    (joins_carries (wraps_carries (joins_carries certs_stay same))
    (joins_carries (wraps_carries (joins_carries signer_kept same))
    same)))))

fields_stay : Carries relaxed_fields (SpellsContentInfo Der) (SpellsContentInfo Ber)
fields_stay = wraps_carries (joins_carries (spells_within same) (joins_carries (wraps_carries (joins_carries signed_stays same)) same))

spelled_stays : Carries relaxed (SpellsObject Der) (SpellsObject Ber)
spelled_stays = record {
  carried = λ text o p. record {
    fields = relaxed_fields p.fields;
    is = fields_stay.carried text p.fields p.is;
    says = record { fields = ap relaxed p.says.fields; same_type = p.says.same_type; own = p.says.own };
  };
}

pub objects_stay : ObjectsStay
objects_stay = (front_carries spelled_stays).carried

pub objects_stay_alone : ObjectsStayAlone
objects_stay_alone octets o p r s = one_object false octets p (relaxed o) s (objects_stay octets o r)

-- Objects of one kind: the content's octets are the same, and are read in DER in both.
pub reads_stay : {A : Type 0} {kind : List ℕ} {Q : Tree → A → Type 0} → Stays (ReadsAs kind Q)
reads_stay octets o x p = record { object = objects_stay octets o p.object; type_is = p.type_is; content_is = p.content_is }

pub reads_stay_alone : {A : Type 0} {kind : List ℕ} {Q : Tree → A → Type 0} → One Q → StaysAlone (ReadsAs kind Q)
reads_stay_alone one octets o p x y r s = reads_as_one one false octets p (relaxed o) y x s (reads_stay octets o x r)

pub manifests_stay : Stays ManifestText
manifests_stay = reads_stay

pub roas_stay : Stays RoaText
roas_stay = reads_stay

pub aspas_stay : Stays AspaText
aspas_stay = reads_stay

pub manifests_stay_alone : StaysAlone ManifestText
manifests_stay_alone octets o p x y r s = one_manifest false octets p (relaxed o) y x s (manifests_stay octets o x r)

pub roas_stay_alone : StaysAlone RoaText
roas_stay_alone octets o p x y r s = one_roa false octets p (relaxed o) y x s (roas_stay octets o x r)

pub aspas_stay_alone : StaysAlone AspaText
aspas_stay_alone octets o p x y r s = one_aspa false octets p (relaxed o) y x s (aspas_stay octets o x r)
