-- How readers of a value that may be next are proved, and loops over them.
use Rattle.std.proofs.Common.{◌≡◌, List, [], Option, Some, None, Result, Ok, Err, refl, sym, ap, ◌∙◌, subst, append-nil}
use Rattle.std.specs.Result.{IsErr, IsErrAnd}
use Rattle.bcder_content.specs.bcder_tree.Tags.{TagValue}
use Rattle.bcder_content.specs.bcder_tree.Tree.{Tree, Trees, none}
use Rattle.bcder_content.specs.bcder_source.Errors.{OnContent}
use Rattle.bcder_content.specs.bcder_source.declared.error.DecodeError.{DecodeError}
use Rattle.bcder_content.specs.Contents.{ValuesLeft, Ended, Unlike, tag_of}
use Rattle.bcder_content.specs.Exact.{Gives, Lacks, LacksTagged, GivesAll, ReadsOptAs}
use Rattle.bcder_content.specs.Grammar.{OneOf, Many, Where, As, Tagged, One}
use Rattle.bcder_content.specs.Perhaps.{NoneNext, ReadsIfAs}
use Rattle.bcder_content.proofs.Choices.{as_lacks, both_lack, choice_lacks, second_lacks, such_lacks, such_refused}
use Rattle.bcder_content.proofs.Forests.{Listing, many_lacks, unlike_lacks}
use Rattle.bcder_content.proofs.Taking.{weaker, tree_of_tag}
use Rattle.bcder_content.proofs.Windows.{one_tag}
use Rattle.bcder_content.proofs.Took.{took_none, took_front, ended_none, one_took}

-- What reading a value that may be next says.
abbrev pub PerhapsOf : {A B : Type 0} → (A → B) → (Tree → B → Type 0) → ValuesLeft → Option A → ValuesLeft → Type 0
PerhapsOf f Q old (Some x) new = Gives Q old (f x) new
PerhapsOf f Q old None new = (new ≡ old) × NoneNext Q old

-- It is there, or isn't.
pub there_if : {A B : Type 0} (f : A → B) {Q : Tree → B → Type 0} {old new : ValuesLeft} {x : A} (o : Option A) → o ≡ Some x → PerhapsOf f Q old o new → Gives Q old (f x) new
there_if {A} f {Q} {old} {new} o e h = subst (λ (p : Option A). PerhapsOf f Q old p new) e h

pub absent_if : {A B : Type 0} (f : A → B) (Q : Tree → B → Type 0) {old new : ValuesLeft} (o : Option A) → o ≡ None → PerhapsOf f Q old o new → (new ≡ old) × NoneNext Q old
absent_if {A} f Q {old} {new} o e h = subst (λ (p : Option A). PerhapsOf f Q old p new) e h

-- A refusal, passed on by `?`.
pub stop_if : {A B C E : Type 0} (f : A → B) {P : Tree → B → Type 0} {now : ValuesLeft} (new : ValuesLeft) (r : Result (Option A) (DecodeError E)) (e : DecodeError E)
    → IsErr r × IsErrAnd r (λ x. x ≡ e) → (C → Lacks P now × (Ended now → ⊥)) → OnContent e C → ReadsIfAs f P now r new
stop_if f new (Ok x) e a h fact = absurd a.1
stop_if {E = E} f {P} {now} new (Err x) e a h fact = subst (λ (y : DecodeError E). OnContent y (Lacks P now × (Ended now → ⊥))) (sym a.1) (weaker e h fact)

pub stop_opt_value : {A B C E : Type 0} (f : A → B) (tag : TagValue) {P : Tree → B → Type 0} {now : ValuesLeft} (new : ValuesLeft) (r : Result (Option A) (DecodeError E)) (e : DecodeError E)
    → IsErr r × IsErrAnd r (λ x. x ≡ e) → (C → LacksTagged tag P now) → OnContent e C → ReadsOptAs f tag P now r new
stop_opt_value f tag new (Ok x) e a h fact = absurd a.1
stop_opt_value {E = E} f tag {P} {now} new (Err x) e a h fact = subst (λ (y : DecodeError E). OnContent y (LacksTagged tag P now)) (sym a.1) (weaker e h fact)

-- None is next, whatever it would mean.
pub as_none_next : {A B : Type 0} {Q : Tree → A → Type 0} (f : A → B) (old new : ValuesLeft) → (new ≡ old) × NoneNext Q old → (new ≡ old) × NoneNext (As Q f) old
as_none_next f old new p = (p.0, record { sound = p.1.sound; lacks = as_lacks f p.1.lacks })

-- A value of that tag that doesn't pass a test.
pub such_lacks_tagged : {A : Type 0} {tag : TagValue} {Q : Tree → A → Type 0} {passes : A → Type 0} {now : ValuesLeft} → LacksTagged tag Q now → LacksTagged tag (Where Q passes) now
such_lacks_tagged l = record { tagged = l.tagged; lacks = such_lacks l.lacks; goes_on = l.goes_on; other = l.other }

pub such_refused_tagged : {A : Type 0} {tag : TagValue} {Q : Tree → A → Type 0} {passes : A → Type 0} {now new : ValuesLeft} {x : A} → Tagged tag Q → One Q → Gives Q now x new → (passes x → ⊥) → LacksTagged tag (Where Q passes) now
such_refused_tagged {x = x} g one given refuses = record {
  tagged = λ u a. ap tag_of (sym (one_took given.took a.1).0) ∙ g.tagged given.tree x given.is;
  lacks = such_refused one given refuses;
  goes_on = λ e. ended_none e given.took;
  other = λ sound o. o.apart (one_tag o.front (tree_of_tag given.tree (took_front given.took)) ∙ g.tagged given.tree x given.is);
}

-- Of a choice, none of the first is next, and then none of the second; or one of the second's tag isn't of it.
pub neither_next : {A : Type 0} {Q R : Tree → A → Type 0} {t u : TagValue} {now mid new : ValuesLeft} → Tagged t Q → Tagged u R → (mid ≡ now) × Unlike now t → (new ≡ mid) × Unlike mid u → (new ≡ now) × NoneNext (OneOf Q R) now
neither_next {Q = Q} {R} {now = now} {mid} {new} g h first second =
    let same : new ≡ now = subst (λ (v : ValuesLeft). new ≡ v) first.0 second.0 in
    (same, record { sound = first.1.sound; lacks = both_lack (unlike_lacks g first.1) (subst (Lacks R) first.0 (unlike_lacks h second.1)) })

pub first_refused : {A : Type 0} {Q R : Tree → A → Type 0} {t u : TagValue} {now : ValuesLeft} → Tagged u R → (t ≡ u → ⊥) → LacksTagged t Q now → Lacks (OneOf Q R) now × (Ended now → ⊥)
first_refused g apart l = (choice_lacks g apart l, l.goes_on)

pub second_refused : {A : Type 0} {Q R : Tree → A → Type 0} {t u : TagValue} {now mid : ValuesLeft} → Tagged t Q → (mid ≡ now) × Unlike now t → LacksTagged u R mid → Lacks (OneOf Q R) now × (Ended now → ⊥)
second_refused g first l = (second_lacks g first l.lacks, subst (λ (v : ValuesLeft). Ended v → ⊥) first.0 l.goes_on)

-- A loop ends where no value of its grammar is next.
pub list_done : {A B : Type 0} {P : Trees → B → Type 0} {Q : Tree → A → Type 0} {k : List A → B} {xs : List A} {start now new : ValuesLeft} → Listing P Q k xs start now → (new ≡ now) × NoneNext Q now → GivesAll P start (k xs) new
list_done {P = P} {Q} {k} {xs} {start} {now} s h =
    let ends : GivesAll (Many Q) now [] now = record { trees = none; took = took_none h.1.sound; is = record { cases = refl }; only = λ goes_on. many_lacks h.1.lacks goes_on } in
    subst (λ (v : ValuesLeft). GivesAll P start (k xs) v) (sym h.0) (subst (λ (zs : List _). GivesAll P start (k zs) now) (append-nil xs) (s.gives [] now ends))
