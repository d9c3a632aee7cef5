-- Slots that are filled are signed attributes.
use Rattle.std.proofs.Common.{◌≡◌, ◌≢◌, Result, Ok, Err, sym, subst}
use Rattle.std.specs.Result.{IsErr, IsErrAnd}
use Rattle.objects_cms.specs.bcder_tree.declared.mode.Mode.{Mode}
use Rattle.objects_cms.specs.bcder_tree.Tree.{Trees}
use Rattle.objects_cms.specs.bcder_source.Errors.{OnContent}
use Rattle.objects_cms.specs.bcder_source.declared.error.DecodeError.{DecodeError}
use Rattle.objects_cms.specs.bcder_content.Contents.{ValuesLeft}
use Rattle.objects_cms.specs.bcder_content.Exact.{GivesAll, LacksAll}
use Rattle.objects_cms.specs.bcder_content.InMode.{ReadsFields}
use Rattle.objects_cms.specs.bcder_content.Words.{Gathers}
use Rattle.objects_cms.proofs.of_bcder_content.Taking.{on_content}
use Rattle.objects_cms.proofs.of_bcder_content.Within.{all_gives, all_stop, all_unfit}
use Rattle.objects_payload.specs.SignedAttributes.{AreAttributes, AttributesValue}
use Rattle.objects_cms.specs.declared.attributes.attrs.Attributes.{Attributes}
use Rattle.objects_cms.specs.declared.attributes.slots.Slots.{Slots}
use Rattle.objects_cms.specs.Kept.{attributes_of, slots_of}
use Rattle.objects_cms.specs.Said.{IsSaid}
use Rattle.objects_cms.specs.Slots.{AreSlots}
use Rattle.objects_cms.proofs.AttributesTold.{attributes_are, attributes_by_slots}
use Rattle.objects_cms.proofs.AttributeOnes.{slots_one}

abbrev OneByOne : Mode → Trees → Slots → Type 0
OneByOne m = Gathers (IsSaid m) AreSlots

pub finished_gives : {E : Type 0} {v w : ValuesLeft} {s : Slots} {a : Attributes} → slots_of (attributes_of a) ≡ s → GivesAll (OneByOne v.mode) v s w
    → ReadsFields {E = E} attributes_of AreAttributes v (Ok a) w
finished_gives {v = v} {a = a} e g = record {
  reads = all_gives (AreAttributes v.mode) (OneByOne v.mode) (λ ts q. attributes_are (subst (λ (s : Slots). OneByOne v.mode ts s) (sym e) q)) (λ ts z p. (slots_of z, attributes_by_slots p)) g;
}

pub finished_stop : {E : Type 0} {v w : ValuesLeft} {r : Result Attributes (DecodeError E)} (e : DecodeError E) → IsErr r × IsErrAnd r (λ x. x ≡ e) → OnContent e (LacksAll (OneByOne v.mode) v)
    → ReadsFields attributes_of AreAttributes v r w
finished_stop {v = v} {w} {r} e a l = record {
  reads = all_stop attributes_of (AreAttributes v.mode) (OneByOne v.mode) v w r e a (λ ts z p. (slots_of z, attributes_by_slots p)) l;
}

pub not_finished : {E : Type 0} {v w new : ValuesLeft} {s : Slots} {e : DecodeError E} → ((x : AttributesValue) → slots_of x ≢ s) → GivesAll (OneByOne v.mode) v s w
    → ReadsFields attributes_of AreAttributes v (Err e) new
not_finished {v = v} {e = e} none g = record {
  reads = on_content e (all_unfit (AreAttributes v.mode) (OneByOne v.mode) (λ ts z p q. none z ((slots_one _).one ts (slots_of z) _ (attributes_by_slots p) q)) (λ ts z p. (slots_of z, attributes_by_slots p)) g);
}
