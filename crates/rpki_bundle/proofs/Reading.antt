-- Exact readers of values by what they mean, of strings that are tested, and of all octets of a source.
use Rattle.std.proofs.Common.{◌≡◌, ℕ, true, false, List, [], ◌++◌, Option, Some, None, Result, Ok, Err, refl, sym, ap, ◌∙◌, subst, append-nil}
use denote.Ref.{MutBor}
use Rattle.std.specs.Fn.{FnOnceReturnsAtMut}
use Rattle.std.specs.Result.{IsErrAnd}
use Rattle.rpki_bundle.specs.bcder_tree.declared.mode.Mode.{Mode}
use Rattle.rpki_bundle.specs.bcder_tree.declared.mode.Mode.TheVariants.{Der}
use Rattle.rpki_bundle.specs.bcder_tree.Tags.{TagValue}
use Rattle.rpki_bundle.specs.bcder_tree.Tree.{Tree, Trees, SpellsAll}
use Rattle.rpki_bundle.specs.bcder_source.Errors.{OnContent}
use Rattle.rpki_bundle.specs.bcder_source.Views.{limited, more_limit}
use Rattle.rpki_bundle.specs.bcder_source.declared.error.DecodeError.{DecodeError}
use Rattle.rpki_bundle.specs.bcder_source.declared.error.DecodeError.TheVariants.{Content, Source, Memory}
use Rattle.rpki_bundle.specs.bcder_content.declared.constructed.Constructed.{Constructed}
use Rattle.rpki_bundle.specs.bcder_content.Contents.{ValuesLeft, octets, EndsHere, TookAll, Ended, Whole}
use Rattle.rpki_bundle.specs.bcder_content.Exact.{ReadsAs, ReadsOptAs, LacksAll, ReadsAllAs}
use Rattle.rpki_bundle.specs.bcder_content.Grammar.{As, End}
use Rattle.rpki_bundle.specs.bcder_content.Here.{here}
use Rattle.rpki_bundle.specs.bcder_content.ClosureReads.{Reader, fresh, ClosureReadsIn, refused_in, failed_in, DecodedCases, Decoded}
use Rattle.rpki_bundle.proofs.of_bcder_content.Choices.{as_gives, as_lacks, as_lacks_tagged}
use Rattle.rpki_bundle.proofs.of_bcder_content.Taking.{weaker}
use Rattle.rpki_bundle.proofs.of_bcder_content.Took.{whole_none}
use Rattle.rpki_bundle.proofs.of_bcder_values.Returning.{all_read}
use Rattle.rpki_bundle.specs.declared.error.BundleError.{BundleError}
use Rattle.rpki_bundle.specs.declared.whole.Parts.{Parts}
use Rattle.rpki_bundle.specs.Bundle.{BundleValue, BundleText}
use Rattle.rpki_bundle.specs.Ends.{ReadsToEndAs, Refuses}
use Rattle.rpki_bundle.specs.Errors.{OnNotABundle}
use Rattle.rpki_bundle.specs.PartFields.{IsBundleAlone, TellsBundle, parts_alone}
use Rattle.rpki_bundle.proofs.Agree.{last_spelled, spelled_last}

-- What a value means that was read.
pub meaning : {A B C E : Type 0} (f : A → B) (g : B → C) (Q : Tree → B → Type 0) (old new : ValuesLeft) (r : Result A (DecodeError E)) → ReadsAs f Q old r new → ReadsAs (λ x. g (f x)) (As Q g) old r new
meaning f g Q old new (Ok x) h = as_gives g h
meaning f g Q old new (Err e) h = weaker e (as_lacks g) h

pub opt_meaning : {A B C E : Type 0} (f : A → B) (g : B → C) (tag : TagValue) (Q : Tree → B → Type 0) (old new : ValuesLeft) (r : Result (Option A) (DecodeError E)) → ReadsOptAs f tag Q old r new → ReadsOptAs (λ x. g (f x)) tag (As Q g) old r new
opt_meaning f g tag Q old new (Ok (Some x)) h = as_gives g h
opt_meaning f g tag Q old new (Ok None) h = h
opt_meaning f g tag Q old new (Err e) h = weaker e (as_lacks_tagged g) h

-- Where a content goes on, it hasn't ended.
pub end_lacks : {v : ValuesLeft} → (Ended v → ⊥) → LacksAll End v
end_lacks {v} goes_on = record { none = λ ts y p w. goes_on (whole_none (subst (Whole v) p.ended w)) }

-- A refusal in front of the end.
pub ends_err : {A B E : Type 0} (f : A → B) (P : Trees → B → Type 0) (old new : ValuesLeft) (r : Result A (DecodeError E)) (x : DecodeError E) → IsErrAnd r (λ y. y ≡ x) → ReadsAllAs f P old r new → ReadsToEndAs f P old r new
ends_err f P old new (Ok y) x e h = absurd e
ends_err f P old new (Err y) x e h = h

-- A reader up to the end, in the mode that it has.
pub ends_in : {A B E : Type 0} (f : A → B) (P : Mode → Trees → B → Type 0) {m k : Mode} (old new : ValuesLeft) (r : Result A (DecodeError E)) → m ≡ k → ReadsToEndAs f (P m) old r new → ReadsToEndAs f (P k) old r new
ends_in f P old new r e h = subst (λ (z : Mode). ReadsToEndAs f (P z) old r new) e h

-- What a reader up to the end says of all octets of a source.
abbrev pub ReadsText : {A B E : Type 0} → (A → B) → Mode → (Trees → B → Type 0) → List ℕ → Result A (DecodeError E) → Type 0
ReadsText f m P o (Ok x) = (ts : Trees) × P ts (f x) × SpellsAll m ts o
ReadsText {A} {B} f m P o (Err e) = OnContent e ((ts : Trees) (x : B) → P ts x → SpellsAll m ts o → ⊥)

-- All values of a source.

nothing_left : (m : Mode) (o : List ℕ) (end : ValuesLeft) (n : ℕ) (l : Option ℕ) → end.limit ≡ l → None ≡ more_limit n l → end.end ≡ (fresh m o).end → EndsHere end.end (octets end) → end.rest ≡ []
nothing_left m o end n None e k u h =
    let P : _ → Type 0 = λ z. EndsHere z (octets end) in
    let ends : limited end.limit end.rest ≡ [] = subst P u h in
    subst (λ (z : Option ℕ). limited z end.rest ≡ []) e ends
nothing_left m o end n (Some a) e k u h = absurd cc

whole_spelled : {m : Mode} {ts : Trees} {o : List ℕ} {end : ValuesLeft} → TookAll (fresh m o) ts end → Ended end → SpellsAll m ts o
whole_spelled {m} {ts} {o} {end} k e =
    let left : end.rest ≡ [] = nothing_left m o end _ end.limit refl k.goes.moved.limit k.goes.end e.ends in
    let whole : o ≡ k.text = k.goes.moved.rest ∙ ap (λ (z : List ℕ). k.text ++ z) left ∙ append-nil k.text in
    subst (λ (z : List ℕ). SpellsAll m ts z) (sym whole) k.spelled

-- Each call of the closure, in that mode, reads a content up to its end.
pub record EndsEach {F S T B E : Type 0} (m : Mode) (rest : S → List ℕ) (g : Reader F (Constructed S) T E) (op : F) (f : T → B) (P : Trees → B → Type 0) : Type 0 where
  pub each : (p q : MutBor (Constructed S)) (r : Result T (DecodeError E)) → (here rest p.now).mode ≡ m → g.post op (p, tt) (r, (q, tt)) → ReadsToEndAs f P (here rest p.now) r (here rest q.now)

end_met : {F S T B E : Type 0} {m : Mode} {rest : S → List ℕ} {g : Reader F (Constructed S) T E} {op : F} {f : T → B} {P : Trees → B → Type 0} → EndsEach m rest g op f P → (given stop : Constructed S) (r : Result T (DecodeError E)) → (here rest given).mode ≡ m → FnOnceReturnsAtMut g op given r stop → ReadsToEndAs f P (here rest given) r (here rest stop)
end_met {F} {S} {T} {B} {E} {m} {rest} {g} {op} {f} {P} exact given stop r mode met =
    subst (λ (v : Constructed S). ReadsToEndAs f P (here rest v) r (here rest stop)) met.shows
    (subst (λ (w : Constructed S). ReadsToEndAs f P (here rest met.shown.now) r (here rest w)) met.leaves
    (exact.each met.shown met.left r (ap (λ (v : Constructed S). (here rest v).mode) met.shows ∙ mode) met.met))

in_fresh : {F S T B E : Type 0} {m : Mode} {rest : S → List ℕ} {g : Reader F (Constructed S) T E} {op : F} {f : T → B} {P : Trees → B → Type 0} {v : ValuesLeft} {r : Result T (DecodeError E)} {end : ValuesLeft} → EndsEach m rest g op f P → v.mode ≡ m → ClosureReadsIn rest g op v r end → ReadsToEndAs f P v r end
in_fresh {F} {S} {T} {B} {E} {m} {rest} {g} {op} {f} {P} {v} {r} {end} exact mode on =
    subst (λ (w : ValuesLeft). ReadsToEndAs f P v r w) on.ends
    (subst (λ (w : ValuesLeft). ReadsToEndAs f P w r (here rest on.left)) on.starts
    (end_met exact on.given on.left r (ap (λ (w : ValuesLeft). w.mode) on.starts ∙ mode) on.met))

decoded_cases : {F S T B E : Type 0} (m : Mode) {rest : S → List ℕ} {g : Reader F (Constructed S) T E} {op : F} {f : T → B} {P : Trees → B → Type 0} (o : List ℕ) (r : Result T (DecodeError E)) → EndsEach m rest g op f P → DecodedCases rest g op (fresh m o) r → ReadsText f m P o r
decoded_cases m o (Ok x) exact h =
    let given = in_fresh exact refl h.1 in
    (given.0.trees, given.0.is, whole_spelled given.0.took given.1)
decoded_cases m o (Err (Content x pos)) exact h = λ ts y p s.
    elim h [
      | refused_in end on ↦ (in_fresh exact refl on).none ts y p (all_read m ts o s)
      | failed_in end v on failed ↦ let given = in_fresh exact refl on in let e : true ≡ false = sym failed ∙ given.1.sound in absurd cc
    ]
decoded_cases m o (Err (Source x)) exact h = tt
decoded_cases m o (Err Memory) exact h = tt

-- Decoding with a closure that reads up to the end.
pub text_decoded : {F S T B E : Type 0} {m : Mode} {rest : S → List ℕ} {g : Reader F (Constructed S) T E} {op : F} {f : T → B} {P : Trees → B → Type 0} {o : List ℕ} {r : Result T (DecodeError E)} → EndsEach m rest g op f P → Decoded rest g op (fresh m o) r → ReadsText f m P o r
text_decoded {m = m} {o = o} {r} exact h = decoded_cases m o r exact h.cases

-- A bundle is given by octets that were read as one, and by none that were refused.
pub told_parts : {E : Type 0} (o : List ℕ) (r : Result Parts (DecodeError E)) → ReadsText {E = E} parts_alone Der (IsBundleAlone Der) o r → TellsBundle o r
told_parts o (Ok p) h = record { spelled = last_spelled (record { trees = h.0; is = h.1; spelled = h.2 }) }
told_parts o (Err (Content x pos)) h = λ b t. let a = spelled_last t.spelled in h a.trees (b, tt) a.is a.spelled
told_parts o (Err (Source x)) h = tt
told_parts o (Err Memory) h = tt

pub refused_text : {E : Type 0} (o : List ℕ) (e : DecodeError E) (r : BundleError) → Refuses e r → TellsBundle o (Err e) → OnNotABundle r ((b : BundleValue) → BundleText o b → ⊥)
refused_text o (Content x pos) r i h = subst (λ (z : BundleError). OnNotABundle z ((b : BundleValue) → BundleText o b → ⊥)) (sym i) h
refused_text o (Source x) r i h = absurd i
refused_text o Memory r i h = subst (λ (z : BundleError). OnNotABundle z ((b : BundleValue) → BundleText o b → ⊥)) (sym i) tt
