-- Names and certificates by their octets: what spells them in DER spells them in BER.
use Rattle.std.proofs.Common.{ap, ℕ, Bool, List}
use Rattle.objects_payload.specs.bcder_tree.declared.mode.Mode.TheVariants.{Ber, Der}
use Rattle.objects_payload.specs.bcder_octets.Bits.{BitsValue}
use Rattle.objects_payload.specs.certs_extension.Cert.{TbsValue}
use Rattle.objects_payload.specs.certs_extension.CertText.{Fields, SaysTbs, SpellsFields, SpellsSigned, SpellsTbs}
use Rattle.objects_payload.specs.Forms.{Carries}
use Rattle.objects_payload.specs.Relaxed.{relaxed_cert, relaxed_name, relaxed_tbs}
use Rattle.objects_payload.specs.RelaxedLaws.{CertsStay, NamesStay}
use Rattle.objects_payload.proofs.RelaxedForms.{same, gathers_within, inside_within, joins_carries, octets_too, octets_within, spells_within, then_within, wraps_carries}
use Rattle.objects_payload.proofs.RelaxedValues.{bits_kept, extension_kept, key_kept}

pub names_stay : NamesStay
names_stay = record { carried = λ text name p. record { same = ap relaxed_name p.same; all = p.all; is = (spells_within same).carried text p.all p.is } }

-- The fields, with both names in BER.
abbrev relaxed_fields : Fields → Fields
relaxed_fields f = (f.0, (f.1.0, (f.1.1.0, (relaxed_name f.1.1.1.0, (f.1.1.1.1.0, (relaxed_name f.1.1.1.1.1.0, f.1.1.1.1.1.1))))))

fields_stay : Carries relaxed_fields (SpellsFields Der) (SpellsFields Ber)
fields_stay =
    wraps_carries
    (joins_carries (spells_within same)
    (joins_carries (spells_within same)
    (joins_carries (spells_within same)
    (joins_carries names_stay
    (joins_carries (spells_within same)
    (joins_carries names_stay
    (joins_carries (spells_within key_kept)
    (joins_carries (spells_within (inside_within (then_within (inside_within (gathers_within extension_kept same)) same)))
    same))))))))

-- What the fields say, by the octets of extensions, which are DER in both.
says_stays : (f : Fields) (c : TbsValue) → SaysTbs f c → SaysTbs (relaxed_fields f) (relaxed_tbs c)
says_stays f c p =
    let e = p.extensions in
    let r = e.resources in
    record {
      serial = p.serial;
      has_null = p.has_null;
      issuer = ap relaxed_name p.issuer;
      not_before = p.not_before;
      not_after = p.not_after;
      subject = ap relaxed_name p.subject;
      key = p.key;
      extensions = record {
        skipped = e.skipped;
        basic_constraints = e.basic_constraints;
        subject_key_identifier = e.subject_key_identifier;
        authority_key_identifier = e.authority_key_identifier;
        key_usage = e.key_usage;
        extended_key_usage = e.extended_key_usage;
        crl_distribution = e.crl_distribution;
        authority_access = e.authority_access;
        subject_access = e.subject_access;
        policies = e.policies;
        resources = record { ip = r.ip; asn = r.asn; no_other_ip = r.no_other_ip; no_other_asn = r.no_other_asn; some = r.some };
      };
    }

tbs_stays : Carries relaxed_tbs (SpellsTbs Der) (SpellsTbs Ber)
tbs_stays = record { carried = λ text c p. record { fields = relaxed_fields p.fields; is = fields_stay.carried text p.fields p.is; says = says_stays p.fields c p.says } }

-- What is signed, the algorithm and the signature.
abbrev SignedFields : Type 0
SignedFields = (List ℕ × TbsValue) × (Bool × (BitsValue × Unit {0}))

abbrev relaxed_signed : SignedFields → SignedFields
relaxed_signed f = ((f.0.0, relaxed_tbs f.0.1), f.1)

signed_stays : Carries relaxed_signed (SpellsSigned Der (SpellsTbs Der)) (SpellsSigned Ber (SpellsTbs Ber))
signed_stays = wraps_carries (joins_carries (octets_too tbs_stays) (joins_carries (spells_within same) (joins_carries (spells_within (octets_within bits_kept)) same)))

pub certs_stay : CertsStay
certs_stay = record {
  carried = λ text c p. record { fields = relaxed_signed p.fields; is = signed_stays.carried text p.fields p.is; says = ap relaxed_cert p.says };
}
