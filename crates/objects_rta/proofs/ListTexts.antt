-- Revocation lists that are all of a content, and all of the octets.
use Rattle.std.proofs.Common.{◌≡◌, ℕ, true, false, List, Some, Result, Ok, Err, ap, sym, ◌∙◌, subst}
use Rattle.std.specs.Result.{IsErr, IsErrAnd}
use Rattle.objects_cms.specs.bcder_tree.declared.mode.Mode.{Mode}
use Rattle.objects_cms.specs.bcder_tree.declared.mode.Mode.TheVariants.{Der}
use Rattle.objects_cms.specs.bcder_tree.Tags.{sequence_tag}
use Rattle.objects_cms.specs.bcder_tree.Tree.{SpellsAll}
use Rattle.objects_cms.specs.bcder_source.Errors.{OnContent}
use Rattle.objects_cms.specs.bcder_source.declared.error.DecodeError.{DecodeError}
use Rattle.objects_cms.specs.bcder_source.declared.error.DecodeError.TheVariants.{Content, Source, Memory}
use Rattle.objects_cms.specs.bcder_content.Captures.{CapturesAll}
use Rattle.objects_cms.specs.bcder_content.declared.constructed.Constructed.{Constructed}
use Rattle.objects_cms.specs.bcder_content.Contents.{Ended, ValuesLeft, tag_of}
use Rattle.objects_cms.specs.bcder_content.Exact.{GivesAll, LacksAll}
use Rattle.objects_cms.specs.bcder_content.Grammar.{Many, Tagged}
use Rattle.objects_cms.specs.bcder_content.Kept.{CapturedValue}
use Rattle.objects_cms.specs.bcder_content.ClosureReads.{Decoded, DecodedCases, Reader, failed_in, fresh, refused_in}
use Rattle.objects_cms.specs.bcder_content.Skips.{NotWhole}
use Rattle.objects_cms.specs.certs_x509.Took.{TookOctets}
use Rattle.objects_cms.specs.certs_extension.CrlText.{CrlValue, IsCrl}
use Rattle.objects_cms.proofs.Calls.{EachCall, call_in}
use Rattle.objects_cms.proofs.Wholes.{spelled_whole, whole_spelled}
use Rattle.objects_rta.specs.Carried.{AnyOctets, AreValues, AreWhole, DecodesLists, ReadsWhole, octets_of}

-- The octets of all values were kept.
pub kept_values : {v new : ValuesLeft} {c : CapturedValue} → CapturesAll v c new → GivesAll (AreValues v.mode) v (octets_of c) new
kept_values {v} {new} {c} h = record {
  trees = h.trees;
  took = h.took;
  is = record { x = tt; is = record { any = tt }; spelled = subst (λ (z : List ℕ). SpellsAll v.mode h.trees z) h.kept h.took.spelled };
  only = λ on. absurd (on h.ended);
}

pub kept_octets : {v new : ValuesLeft} {c : CapturedValue} → CapturesAll v c new → TookOctets octets_of AnyOctets v c new
kept_octets {v} {new} {c} h = record {
  text = h.took.text;
  goes = h.took.goes;
  is = record { same = sym h.kept; trees = h.trees; spelled = h.took.spelled };
}

pub no_values : {v : ValuesLeft} → NotWhole v → LacksAll (AreValues v.mode) v
no_values n = record { none = λ ts x p w. n.none ts w }

-- A refusal, which `?` passes on.
pub whole_stop : {A E : Type 0} (f : A → List CrlValue) (v new : ValuesLeft) (r : Result A (DecodeError E)) (e : DecodeError E) → IsErr r × IsErrAnd r (λ x. x ≡ e)
    → OnContent e (LacksAll (Many (IsCrl v.mode)) v) → ReadsWhole f v r new
whole_stop f v new (Ok x) e a l = absurd a.1
whole_stop {E = E} f v new (Err x) e a l = subst (λ (z : DecodeError E). OnContent z (LacksAll (Many (IsCrl v.mode)) v)) (sym a.1) l

-- Lists were read, and then no value was left.
pub whole_ends : {v mid new : ValuesLeft} {crls : List CrlValue} → GivesAll (Many (IsCrl v.mode)) v crls mid → new ≡ mid → Ended mid → AreWhole v crls new
whole_ends {v} {crls = crls} g e ended = subst (λ (w : ValuesLeft). AreWhole v crls w) (sym e) (record { trees = g.trees; took = g.took; ended = ended; is = g.is })

-- Each call of the closure reads lists that are all of its content.
abbrev pub EachWhole : {F S T E : Type 0} → (S → List ℕ) → Reader F (Constructed S) T E → F → (T → List CrlValue) → Type 0
EachWhole {T = T} {E} rest g op f = EachCall rest g op (λ (v : ValuesLeft) (r : Result T (DecodeError E)) (w : ValuesLeft). ReadsWhole f v r w)

decoded_cases : {F S T E : Type 0} {rest : S → List ℕ} {g : Reader F (Constructed S) T E} {op : F} {f : T → List CrlValue} (o : List ℕ) (r : Result T (DecodeError E))
    → EachWhole rest g op f → DecodedCases rest g op (fresh Der o) r → DecodesLists f (Some o) r
decoded_cases o (Ok x) each h =
    let w = call_in each h.1 in
    record { trees = w.trees; is = w.is; spelled = whole_spelled (record { behind = h.0; took = w.took; ended = w.ended }) }
decoded_cases o (Err (Content x pos)) each h = λ crls p.
    elim h [
      | refused_in end on ↦ (call_in each on).none p.trees crls p.is (spelled_whole p.spelled)
      | failed_in end z on failed ↦ let w = call_in each on in let e : true ≡ false = sym failed ∙ w.took.goes.behind in absurd cc
    ]
decoded_cases o (Err (Source x)) each h = tt
decoded_cases o (Err Memory) each h = tt

pub decodes_lists : {F S T E : Type 0} {rest : S → List ℕ} {g : Reader F (Constructed S) T E} {op : F} {f : T → List CrlValue} {o : List ℕ} {r : Result T (DecodeError E)}
    → EachWhole rest g op f → Decoded rest g op (fresh Der o) r → DecodesLists f (Some o) r
decodes_lists {o = o} {r} each h = decoded_cases o r each h.cases

-- A list is a SEQUENCE.
pub crl_tagged : (m : Mode) → Tagged sequence_tag (IsCrl m)
crl_tagged m = record { tagged = λ t x p. ap tag_of p.is.is.whole }
