-- Attributes are read in one way, and so is what they say together.
use Rattle.std.proofs.Common.{◌≡◌, List, [], ◌∷◌, Option, filter_map, sym, ◌∙◌}
use Rattle.objects_cms.specs.bcder_tree.declared.mode.Mode.{Mode}
use Rattle.objects_cms.specs.bcder_tree.Tags.{oid_tag}
use Rattle.objects_cms.specs.bcder_tree.Strings.{IsOctetString, octet_string_tag}
use Rattle.objects_cms.specs.bcder_content.Grammar.{OctetsOf, One, OneAll}
use Rattle.objects_cms.specs.bcder_content.Words.{Gathers, Means}
use Rattle.objects_cms.specs.bcder.Identifiers.{IsOid}
use Rattle.objects_cms.specs.certs_basics.Forms.{IsTime}
use Rattle.objects_cms.proofs.of_bcder_content.Meaning.{means_one}
use Rattle.objects_cms.proofs.of_bcder_content.Unique.{as_one, end_one, inside_one, octets_one, then_one, unsigned_one}
use Rattle.objects_cms.proofs.of_bcder.Read.{oid_one}
use Rattle.objects_cms.proofs.of_certs_basics.Values.{gathers_one, string_one, then_by_one}
use Rattle.objects_cms.proofs.of_certs_basics.Meanings.{time_one}
use Rattle.objects_payload.specs.SignedAttributes.{IsBinaryTime}
use Rattle.objects_cms.specs.declared.attributes.kinds.Kind.{Kind}
use Rattle.objects_cms.specs.declared.attributes.kinds.Kind.TheVariants as kinds
use Rattle.objects_cms.specs.declared.attributes.said.Said.{Said}
use Rattle.objects_cms.specs.declared.attributes.slots.Slots.{Slots}
use Rattle.objects_cms.specs.Said.{IsKindOid, IsSaid, IsValueOf}
use Rattle.objects_cms.specs.Slots.{AreSlots, IsOnly, digest_in, seconds_in, time_in, type_in}
use Rattle.objects_cms.proofs.Single.{same_kind}

pub oid_value_one : One (OctetsOf oid_tag IsOid)
oid_value_one = octets_one oid_one

pub string_value_one : (m : Mode) → One (IsOctetString m)
string_value_one m = string_one m octet_string_tag

pub time_value_one : One IsTime
time_value_one = time_one

pub seconds_one : One IsBinaryTime
seconds_one = octets_one unsigned_one

pub kind_one : One (Means (OctetsOf oid_tag IsOid) IsKindOid)
kind_one = means_one oid_value_one (λ x k l p q. same_kind k l (sym p ∙ q))

value_one : (m : Mode) (k : Kind) → One (IsValueOf m k)
value_one m kinds.ContentType = as_one oid_value_one
value_one m kinds.MessageDigest = as_one (string_value_one m)
value_one m kinds.SigningTime = as_one time_value_one
value_one m kinds.BinarySigningTime = as_one seconds_one

pub said_one : (m : Mode) → One (IsSaid m)
said_one m = as_one (inside_one (then_by_one kind_one (λ k. then_one (inside_one (then_one (value_one m k) end_one)) end_one)))

only_one : {A : Type 0} (l : List A) (x y : Option A) → IsOnly l x → IsOnly l y → x ≡ y
only_one [] x y p q = p ∙ sym q
only_one (a ∷ []) x y p q = p ∙ sym q
only_one (a ∷ b ∷ l) x y p q = absurd p

same_slots : (all : List Said) (x y : Slots) → AreSlots all x → AreSlots all y → x ≡ y
same_slots all x y p q =
    let type : x.content_type ≡ y.content_type = only_one (filter_map type_in all) x.content_type y.content_type p.content_type q.content_type in
    let digest : x.message_digest ≡ y.message_digest = only_one (filter_map digest_in all) x.message_digest y.message_digest p.message_digest q.message_digest in
    let time : x.signing_time ≡ y.signing_time = only_one (filter_map time_in all) x.signing_time y.signing_time p.signing_time q.signing_time in
    let seconds : x.binary_signing_time ≡ y.binary_signing_time = only_one (filter_map seconds_in all) x.binary_signing_time y.binary_signing_time p.binary_signing_time q.binary_signing_time in
    λ i. record { content_type = type i; message_digest = digest i; signing_time = time i; binary_signing_time = seconds i }

pub slots_one : (m : Mode) → OneAll (Gathers (IsSaid m) AreSlots)
slots_one m = gathers_one (said_one m) same_slots
