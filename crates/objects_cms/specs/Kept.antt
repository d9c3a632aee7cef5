-- Signed attributes that are all of a content, and of octets that are kept.
use Rattle.std.specs.Prelude.{ℕ, List, Some, Result, Ok, Err}
use Rattle.objects_cms.specs.bcder_tree.declared.mode.Mode.{Mode}
use Rattle.objects_cms.specs.bcder_tree.Tree.{SpellsAll, Trees}
use Rattle.objects_cms.specs.bcder_source.Errors.{OnContent}
use Rattle.objects_cms.specs.bcder_source.declared.error.DecodeError.{DecodeError}
use Rattle.objects_cms.specs.bcder_content.Contents.{Ended, TookAll, ValuesLeft}
use Rattle.objects_cms.specs.bcder_content.Exact.{LacksAll}
use Rattle.objects_cms.specs.bcder_content.Texts.{InOrder}
use Rattle.objects_payload.specs.SignedAttributes.{AreAttributes, AttributesValue}
use Rattle.objects_cms.specs.declared.attributes.attrs.Attributes.{Attributes}
use Rattle.objects_cms.specs.declared.attributes.slots.Slots.{Slots}

-- What they say, in the standard's terms.
abbrev pub attributes_of : Attributes → AttributesValue
attributes_of a = record {
  content_type = a.content_type.0;
  digest = a.message_digest;
  signing_time = a.signing_time;
  binary_signing_time = a.binary_signing_time;
}

abbrev pub slots_of : AttributesValue → Slots
slots_of x = record {
  content_type = Some (record { 0 = x.content_type });
  message_digest = Some x.digest;
  signing_time = x.signing_time;
  binary_signing_time = x.binary_signing_time;
}

-- Values of attributes, with their octets, and what they say.
pub record AreKept (m : Mode) (ts : Trees) (x : List ℕ × AttributesValue) : Type 0 where
  pub spelled : SpellsAll m ts x.0
  pub is : AreAttributes m ts x.1

-- Values of attributes that say x were read, which are all that was left of a content.
pub record IsWholly (old : ValuesLeft) (x : AttributesValue) (new : ValuesLeft) : Type 0 where
  pub trees : Trees
  pub took : TookAll old trees new
  pub ended : Ended new
  pub is : AreAttributes old.mode trees x

-- A reader of such a content, its end included.
abbrev pub AreWhole : {E : Type 0} → ValuesLeft → Result Attributes (DecodeError E) → ValuesLeft
    → Type 0
AreWhole old (Ok a) new = IsWholly old (attributes_of a) new
AreWhole old (Err e) new = OnContent e (LacksAll (AreAttributes old.mode) old)

-- A reader of all octets.
abbrev pub DecodesAll : {E : Type 0} → Mode → List ℕ → Result Attributes (DecodeError E) → Type 0
DecodesAll m octets (Ok a) = InOrder m (AreAttributes m) octets (attributes_of a)
DecodesAll m octets (Err e) =
    OnContent e ((x : AttributesValue) → InOrder m (AreAttributes m) octets x → ⊥)
