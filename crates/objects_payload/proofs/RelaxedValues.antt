-- Simple values, keys, extensions and attributes: what they mean in DER they mean in BER.
use Rattle.std.proofs.Common.{ℕ, Bool, true, false, List, [], ◌∷◌, Option, Some, None, refl, sym, subst, arith}
use Rattle.objects_payload.specs.bcder_tree.declared.mode.Mode.{Mode}
use Rattle.objects_payload.specs.bcder_tree.declared.mode.Mode.TheVariants.{Ber, Der}
use Rattle.objects_payload.specs.bcder_tree.Tags.{TagValue}
use Rattle.objects_payload.specs.bcder_tree.Tree.{Tree, Trees}
use Rattle.objects_payload.specs.bcder_tree.Strings.{IsBerString, IsString, octet_string_tag}
use Rattle.objects_payload.specs.bcder_primitive.Values.{IsBoolean, IsTruth}
use Rattle.objects_payload.specs.bcder_octets.BitContents.{IsBitString, bit_string_tag}
use Rattle.objects_payload.specs.bcder_octets.Bits.{BitsValue}
use Rattle.objects_payload.specs.bcder_content.Grammar.{End, OctetsOf, Then}
use Rattle.objects_payload.specs.certs_basics.declared.PublicKeyFormat.{PublicKeyFormat}
use Rattle.objects_payload.specs.certs_basics.Keys.{IsFormat, IsKey}
use Rattle.objects_payload.specs.certs_extension.Extensions.{IsExtension}
use Rattle.objects_payload.specs.Identifiers as id
use Rattle.objects_payload.specs.SignedAttributes.{AreAttributes, Attribute, IsOnce, those_of}
use Rattle.objects_payload.specs.Forms.{KeepsInBer, Within}
use Rattle.objects_payload.proofs.RelaxedForms.{same, as_within, default_within, gathers_within, inside_within, octets_within, then_within}

-- A string that is primitive is one of BER.
pub string_kept : (tag : TagValue) → KeepsInBer (λ m. IsString m tag)
string_kept tag = record { carried = λ t x p. subst (λ (u : Tree). IsBerString tag u x) (sym p) (refl, refl) }

-- In BER unused bits may be set.
pub bits_kept : KeepsInBer IsBitString
bits_kept = record { carried = λ content x p. record { whole = p.whole; lawful = p.lawful; padded = tt; short = tt } }

-- In BER any octet but 0 is true.
pub boolean_kept : KeepsInBer IsBoolean
boolean_kept = record { carried = λ content x p. record { octet = p.octet; whole = p.whole; truth = at p.octet x p.truth } }
  where
    at : (a : ℕ) (x : Bool) → IsTruth Der a x → IsTruth Ber a x
    at a false p = p
    at a true p = λ e. omega (arith, p, e)

abbrev AreKeyFields : Mode → Trees → PublicKeyFormat × (BitsValue × Unit {0}) → Type 0
AreKeyFields m = Then IsFormat (Then (OctetsOf bit_string_tag (IsBitString m)) End)

key_fields_kept : KeepsInBer AreKeyFields
key_fields_kept = then_within same (then_within (octets_within bits_kept) same)

pub key_kept : KeepsInBer IsKey
key_kept = inside_within (record { carried = λ ts k p. record { are = key_fields_kept.carried ts (k.format, (k.bits, tt)) p.are; has = p.has } })

pub extension_kept : KeepsInBer IsExtension
extension_kept = as_within (inside_within (then_within same (default_within (octets_within boolean_kept) (then_within (string_kept octet_string_tag) same))))

-- Attributes of a signer.

once_within : {A : Type 0} {Q R : Tree → A → Type 0} → Within Q R → (all : List Attribute) (x : Option A) → IsOnce Q all x → IsOnce R all x
once_within v [] None p = p
once_within v [] (Some x) p = p
once_within v (a ∷ []) None p = p
once_within v (a ∷ []) (Some x) p = v.carried a.value x p
once_within v (a ∷ b ∷ all) x p = p

pub attributes_kept : KeepsInBer AreAttributes
attributes_kept = gathers_within same (record {
  carried = λ all s p. record {
    no_other = p.no_other;
    content_type = p.content_type;
    digest = once_within (string_kept octet_string_tag) (those_of id.message_digest all) (Some s.digest) p.digest;
    signing_time = p.signing_time;
    binary_signing_time = p.binary_signing_time;
  };
})
