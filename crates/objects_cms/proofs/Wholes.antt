-- Values that are all of a content, and all of the octets that are kept of it.
use Rattle.std.proofs.Common.{◌≡◌, ℕ, true, false, List, [], ◌++◌, length, Option, None, Some, Result, Ok, Err, refl, sym, ap, ◌∙◌, subst, append-nil}
use Rattle.std.specs.Result.{IsErr, IsErrAnd}
use Rattle.objects_cms.specs.bcder_tree.declared.mode.Mode.{Mode}
use Rattle.objects_cms.specs.bcder_tree.Tree.{SpellsAll, Trees}
use Rattle.objects_cms.specs.bcder_source.Errors.{OnContent}
use Rattle.objects_cms.specs.bcder_source.Views.{limited, more_limit}
use Rattle.objects_cms.specs.bcder_source.declared.error.DecodeError.{DecodeError}
use Rattle.objects_cms.specs.bcder_source.declared.error.DecodeError.TheVariants.{Content, Source, Memory}
use Rattle.objects_cms.specs.bcder_content.declared.constructed.Constructed.{Constructed}
use Rattle.objects_cms.specs.bcder_content.Captures.{CapturesAll}
use Rattle.objects_cms.specs.bcder_content.Contents.{EndsHere, Ended, Goes, ValuesLeft, Whole, octets}
use Rattle.objects_cms.specs.bcder_content.Exact.{GivesAll, LacksAll}
use Rattle.objects_cms.specs.bcder_content.Kept.{CapturedValue}
use Rattle.objects_cms.specs.bcder_content.ClosureReads.{Decoded, DecodedCases, Reader, failed_in, fresh, refused_in}
use Rattle.objects_cms.specs.bcder_content.Skips.{NotWhole}
use Rattle.objects_cms.specs.bcder_content.Texts.{InOrder}
use Rattle.objects_cms.proofs.of_bcder_content.Took.{one_whole}
use Rattle.objects_payload.specs.SignedAttributes.{AreAttributes, AttributesValue}
use Rattle.objects_cms.specs.declared.attributes.attrs.Attributes.{Attributes}
use Rattle.objects_cms.specs.Kept.{AreKept, AreWhole, DecodesAll, IsWholly}
use Rattle.objects_cms.proofs.Calls.{EachCall, call_in}

-- A refusal, which `?` passes on.
pub whole_stop : {E : Type 0} (v new : ValuesLeft) (r : Result Attributes (DecodeError E)) (e : DecodeError E) → IsErr r × IsErrAnd r (λ x. x ≡ e)
    → OnContent e (LacksAll (AreAttributes v.mode) v) → AreWhole v r new
whole_stop v new (Ok x) e a l = absurd a.1
whole_stop {E} v new (Err x) e a l = subst (λ (z : DecodeError E). OnContent z (LacksAll (AreAttributes v.mode) v)) (sym a.1) l

-- Attributes were read, and then no value was left; or one was, or it was refused.
pub whole_ends : {v mid new : ValuesLeft} {x : AttributesValue} → GivesAll (AreAttributes v.mode) v x mid → new ≡ mid → Ended mid → IsWholly v x new
whole_ends {v} {x = x} g e ended = subst (λ (w : ValuesLeft). IsWholly v x w) (sym e) (record { trees = g.trees; took = g.took; ended = ended; is = g.is })

-- All octets of a source spell values where these are all of it.
pub no_limit : (n : ℕ) (l : Option ℕ) → None ≡ more_limit n l → l ≡ None
no_limit n None e = refl
no_limit n (Some k) e = absurd cc

pub ends_with : {v : ValuesLeft} → Ended v → v.end ≡ (fresh v.mode []).end → v.limit ≡ None → v.rest ≡ []
ends_with {v} e end limit =
    let here = subst (λ z. EndsHere z (octets v)) end e.ends in
    sym (ap (λ (l : Option ℕ). limited l v.rest) limit) ∙ here

pub whole_spelled : {m : Mode} {o : List ℕ} {ts : Trees} → Whole (fresh m o) ts → SpellsAll m ts o
whole_spelled {m} {o} {ts} w =
    let limit = no_limit (length w.took.text) w.behind.limit w.took.goes.moved.limit in
    let none : w.behind.rest ≡ [] = ends_with w.ended w.took.goes.end limit in
    let same : o ≡ w.took.text = w.took.goes.moved.rest ∙ ap (λ (z : List ℕ). w.took.text ++ z) none ∙ append-nil w.took.text in
    subst (λ (z : List ℕ). SpellsAll m ts z) (sym same) w.took.spelled

pub spelled_whole : {m : Mode} {o : List ℕ} {ts : Trees} → SpellsAll m ts o → Whole (fresh m o) ts
spelled_whole {m} {o} {ts} s = record {
  behind = fresh m [];
  took = record {
    text = o;
    spelled = s;
    goes = record { moved = record { rest = sym (append-nil o); limit = refl }; mode = refl; end = refl; before = refl; behind = refl };
  };
  ended = record { sound = refl; ends = refl };
}

-- Each call of the closure reads attributes that are all of its content.
abbrev pub EachWhole : {F S E : Type 0} → (S → List ℕ) → Reader F (Constructed S) Attributes E → F → Type 0
EachWhole {E = E} rest g op = EachCall rest g op (λ (v : ValuesLeft) (r : Result Attributes (DecodeError E)) (w : ValuesLeft). AreWhole v r w)

decoded_cases : {F S E : Type 0} {rest : S → List ℕ} {g : Reader F (Constructed S) Attributes E} {op : F} (m : Mode) (o : List ℕ) (r : Result Attributes (DecodeError E))
    → EachWhole rest g op → DecodedCases rest g op (fresh m o) r → DecodesAll m o r
decoded_cases m o (Ok x) each h =
    let w = call_in each h.1 in
    record { trees = w.trees; is = w.is; spelled = whole_spelled (record { behind = h.0; took = w.took; ended = w.ended }) }
decoded_cases m o (Err (Content x pos)) each h = λ y p.
    elim h [
      | refused_in end on ↦ (call_in each on).none p.trees y p.is (spelled_whole p.spelled)
      | failed_in end z on failed ↦ let w = call_in each on in let e : true ≡ false = sym failed ∙ w.took.goes.behind in absurd cc
    ]
decoded_cases m o (Err (Source x)) each h = tt
decoded_cases m o (Err Memory) each h = tt

-- Decoding with such a closure.
pub decodes_all : {F S E : Type 0} {rest : S → List ℕ} {g : Reader F (Constructed S) Attributes E} {op : F} {m : Mode} {o : List ℕ} {r : Result Attributes (DecodeError E)}
    → EachWhole rest g op → Decoded rest g op (fresh m o) r → DecodesAll m o r
decodes_all {m = m} {o} {r} each h = decoded_cases m o r each h.cases

-- All values of a content were kept, and their octets are those of attributes.
same_whole : {v new : ValuesLeft} {c : CapturedValue} → CapturesAll v c new → {ts : Trees} → Whole v ts → SpellsAll v.mode ts c.octets
same_whole {v} h {ts} w =
    let same = one_whole h.trees ts (record { behind = _; took = h.took; ended = h.ended }) w in
    subst (λ (us : Trees). SpellsAll v.mode us _) same (subst (λ (z : List ℕ). SpellsAll v.mode h.trees z) h.kept h.took.spelled)

pub kept_goes : {v new : ValuesLeft} {c : CapturedValue} → CapturesAll v c new → Goes v c.octets new
kept_goes {v} {new} h = subst (λ (z : List ℕ). Goes v z new) h.kept h.took.goes

pub kept_gives : {v new : ValuesLeft} {c : CapturedValue} {x : AttributesValue} → CapturesAll v c new → InOrder v.mode (AreAttributes v.mode) c.octets x
    → GivesAll (AreKept v.mode) v (c.octets, x) new
kept_gives {c = c} h p = record {
  trees = p.trees;
  took = record { text = c.octets; spelled = p.spelled; goes = kept_goes h };
  is = record { spelled = p.spelled; is = p.is };
  only = λ on. absurd (on h.ended);
}

pub kept_lacks : {v new : ValuesLeft} {c : CapturedValue} → CapturesAll v c new → ((x : AttributesValue) → InOrder v.mode (AreAttributes v.mode) c.octets x → ⊥)
    → LacksAll (AreKept v.mode) v
kept_lacks h none = record { none = λ ts x p w. none x.1 (record { trees = ts; is = p.is; spelled = same_whole h w }) }

pub none_kept : {v : ValuesLeft} → NotWhole v → LacksAll (AreKept v.mode) v
none_kept n = record { none = λ ts x p w. n.none ts w }

-- The octets in the mode of the content.
pub in_mode : {m k : Mode} {o u : List ℕ} {x : AttributesValue} → m ≡ k → o ≡ u → InOrder m (AreAttributes m) o x → InOrder k (AreAttributes k) u x
in_mode {k = k} {o} {x = x} e f p = subst (λ (z : List ℕ). InOrder k (AreAttributes k) z x) f (subst (λ (z : Mode). InOrder z (AreAttributes z) o x) e p)
