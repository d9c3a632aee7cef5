-- How a reader of a content is proved: field by field, in the order of its grammar.
use Rattle.std.proofs.Common.{map, ◌≡◌, Bool, true, false, List, [], ◌∷◌, ◌++◌, Option, Some, None, Result, Ok, Err, refl, sym, ap, ◌∙◌, subst, append_assoc, append-nil, inl, inr}
use Rattle.std.specs.Result.{IsErr, IsErrAnd}
use Rattle.std.specs.Option.{option_map, unwrap_or}
use Rattle.std.proofs.lemmas.List.{map-append}
use Rattle.std.proofs.lemmas.Iterator.Adapters.{option_map_id}
use Rattle.bcder_content.specs.bcder_tree.Tags.{TagValue}
use Rattle.bcder_content.specs.bcder_tree.Tree.{Tree, Trees, none, more}
use Rattle.bcder_content.specs.bcder_source.Errors.{OnContent}
use Rattle.bcder_content.specs.bcder_source.declared.error.DecodeError.{DecodeError}
use Rattle.bcder_content.specs.Contents.{ValuesLeft, Took, TookAll, Ahead, Ended, Whole, Unlike, tag_of}
use Rattle.bcder_content.specs.Exact.{Gives, Lacks, LacksTagged, LacksAll, GivesAll, ReadsAllAs}
use Rattle.bcder_content.specs.Grammar.{End, Rest, Then, Without, OptCases, Opt, Default, ManyCases, Many, Tagged}
use Rattle.bcder_content.specs.Skips.{SkipsAll, NotWhole}
use Rattle.bcder_content.proofs.Taking.{weaker}
use Rattle.bcder_content.proofs.Took.{took_none, took_more, more_splits, one_took, ended_none, whole_none, whole_first, whole_others}

-- `?` passes a refusal on.
passed_on : {A B D E : Type 0} (f : D → A) {P : Trees → A → Type 0} {start : ValuesLeft} (new : ValuesLeft) (r : Result D (DecodeError E)) (e : DecodeError E) → IsErr r × IsErrAnd r (λ x. x ≡ e) → (B → LacksAll P start) → OnContent e B → ReadsAllAs f P start r new
passed_on f new (Ok x) e a h fact = absurd a.1
passed_on f {P = P} {start} new (Err x) e a h fact = subst (λ (y : DecodeError _). OnContent y (LacksAll P start)) (sym a.1) (weaker e h fact)

-- What the grammar R reads from now on completes, by k, what the grammar P reads from the start. Where `some` is true a
-- field was read, and so no read of the content was refused.
pub record Reading {A B : Type 0} (P : Trees → A → Type 0) (R : Trees → B → Type 0) (k : B → A) (start now : ValuesLeft) (some : Bool) : Type 0 where
  pub gives : (b : B) (end : ValuesLeft) → GivesAll R now b end → GivesAll P start (k b) end
  pub lacks : LacksAll R now → LacksAll P start
  pub sound : some ≡ true → now.failed ≡ false

-- Nothing was read yet.
pub begin : {A : Type 0} (P : Trees → A → Type 0) (v : ValuesLeft) → Reading P P (λ b. b) v v false
begin P v = record { gives = λ b end g. g; lacks = λ l. l; sound = λ e. absurd cc }

-- What is left is of R, or of T after one more field.
record Step {B C : Type 0} (R : Trees → B → Type 0) (T : Trees → C → Type 0) (j : C → B) (now new : ValuesLeft) : Type 0 where
  gives : (c : C) (end : ValuesLeft) → GivesAll T new c end → GivesAll R now (j c) end
  lacks : LacksAll T new → LacksAll R now
  sound : new.failed ≡ false

step : {A B C : Type 0} {P : Trees → A → Type 0} {R : Trees → B → Type 0} {T : Trees → C → Type 0} {k : B → A} {j : C → B} {start now new : ValuesLeft} {some : Bool} → Reading P R k start now some → Step R T j now new → Reading P T (λ c. k (j c)) start new true
step {j = j} s u = record { gives = λ c end g. s.gives (j c) end (u.gives c end g); lacks = λ l. s.lacks (u.lacks l); sound = λ e. u.sound }

-- A field.

pub first_lacks : {A B : Type 0} {Q : Tree → A → Type 0} (R : Trees → B → Type 0) {now : ValuesLeft} → Lacks Q now → LacksAll (Then Q R) now
first_lacks R {now} l = record { none = λ ts y p w. l.none p.first y.0 p.is (whole_first (subst (Whole now) p.whole w)) }

then_lacks : {A B : Type 0} {Q : Tree → A → Type 0} {R : Trees → B → Type 0} {now new : ValuesLeft} {t : Tree} → Took now t new → LacksAll R new → LacksAll (Then Q R) now
then_lacks {now = now} k l = record { none = λ ts y p w. l.none p.others y.1 p.rest (whole_others k (subst (Whole now) p.whole w)).1 }

then_step : {A B : Type 0} {Q : Tree → A → Type 0} (R : Trees → B → Type 0) {now new : ValuesLeft} {x : A} → Gives Q now x new → Step (Then Q R) R (λ b. (x, b)) now new
then_step R g = record {
  gives = λ b end h. record {
    trees = more g.tree h.trees;
    took = took_more g.took h.took;
    is = record { first = g.tree; others = h.trees; whole = refl; is = g.is; rest = h.is };
    only = λ goes_on. then_lacks g.took (h.only goes_on);
  };
  lacks = then_lacks g.took;
  sound = g.took.goes.behind;
}

-- A field was read.
pub next : {A B C : Type 0} {P : Trees → A → Type 0} {Q : Tree → B → Type 0} {R : Trees → C → Type 0} {k : B × C → A} {start now new : ValuesLeft} {some : Bool} {x : B} → Reading P (Then Q R) k start now some → Gives Q now x new → Reading P R (λ b. k (x, b)) start new true
next {R = R} s g = step s (then_step R g)

-- A field was refused, and `?` passes that on.
pub stop : {A B C D E : Type 0} {P : Trees → A → Type 0} {Q : Tree → B → Type 0} {R : Trees → C → Type 0} {k : B × C → A} {start now : ValuesLeft} {some : Bool} (f : D → A) (new : ValuesLeft) (r : Result D (DecodeError E)) (e : DecodeError E)
    → Reading P (Then Q R) k start now some → IsErr r × IsErrAnd r (λ x. x ≡ e) → OnContent e (Lacks Q now) → ReadsAllAs f P start r new
stop {R = R} f new r e s a h = passed_on f new r e a (λ l. s.lacks (first_lacks R l)) h

-- The end.

end_gives : {v : ValuesLeft} → v.failed ≡ false → GivesAll End v tt v
end_gives {v} sound = record {
  trees = none;
  took = took_none sound;
  is = record { ended = refl };
  only = λ goes_on. record { none = λ ts y p w. goes_on (whole_none (subst (Whole v) p.ended w)) };
}

-- All fields were read.
pub done : {A : Type 0} {P : Trees → A → Type 0} {k : Unit {0} → A} {start now : ValuesLeft} → Reading P End k start now true → GivesAll P start (k tt) now
done {now = now} s = s.gives tt now (end_gives (s.sound refl))

-- The rest, by another reader.

-- What is left was read as a whole.
pub finish : {A B : Type 0} {P : Trees → A → Type 0} {R : Trees → B → Type 0} {k : B → A} {start now end : ValuesLeft} {some : Bool} {b : B} → Reading P R k start now some → GivesAll R now b end → GivesAll P start (k b) end
finish {end = end} {b = b} s g = s.gives b end g

-- What is left was refused as a whole, and `?` passes that on.
pub stop_all : {A B D E : Type 0} {P : Trees → A → Type 0} {R : Trees → B → Type 0} {k : B → A} {start now : ValuesLeft} {some : Bool} (f : D → A) (new : ValuesLeft) (r : Result D (DecodeError E)) (e : DecodeError E)
    → Reading P R k start now some → IsErr r × IsErrAnd r (λ x. x ≡ e) → OnContent e (LacksAll R now) → ReadsAllAs f P start r new
stop_all f new r e s a h = passed_on f new r e a (λ l. s.lacks l) h

-- Any values are left, and were skipped.
pub rest_gives : {now end : ValuesLeft} → SkipsAll now end → GivesAll Rest now tt end
rest_gives s = record { trees = s.trees; took = s.took; is = record { any = tt }; only = λ goes_on. absurd (goes_on s.ended) }

-- What is left isn't values.
pub rest_lacks : {now : ValuesLeft} → NotWhole now → LacksAll Rest now
rest_lacks l = record { none = λ ts x p w. l.none ts w }

-- OPTIONAL.

-- The values that are left begin with none of that tag.
left_without : {now end : ValuesLeft} {tag : TagValue} {ts : Trees} → Unlike now tag → TookAll now ts end → Without tag ts
left_without {now} {end} u k = record { unlike = λ t us e same. let s = more_splits (subst (λ (ws : Trees). TookAll now ws end) e k) in u.none t (s.behind, s.first) same }

-- Where a value of that tag is next they do.
with_tag : {now : ValuesLeft} {tag : TagValue} (ts : Trees) → ((t : Tree) → Ahead now t → tag_of t ≡ tag) → (Ended now → ⊥) → Whole now ts → Without tag ts → ⊥
with_tag none tagged goes_on w u = goes_on (whole_none w)
with_tag (more t us) tagged goes_on w u = u.unlike t us refl (tagged t (whole_first w))

took_tagged : {now new : ValuesLeft} {t : Tree} {tag : TagValue} → Took now t new → tag_of t ≡ tag → (u : Tree) → Ahead now u → tag_of u ≡ tag
took_tagged k e u a = ap tag_of (sym (one_took k a.1).0) ∙ e

none_lacks : {A B : Type 0} {tag : TagValue} {Q : Tree → A → Type 0} {R : Trees → B → Type 0} {now : ValuesLeft} → Tagged tag Q → Unlike now tag → LacksAll R now → LacksAll (Opt tag Q R) now
none_lacks {A} {B} {tag} {Q} {R} {now} g u l = record { none = λ ts y p w. at ts y.0 y.1 p.cases w }
  where
    at : (ts : Trees) (o : Option A) (b : B) → OptCases tag Q R ts o b → Whole now ts → ⊥
    at ts None b q w = l.none ts b q.1 w
    at ts (Some x) b q w = u.none q.first (whole_first (subst (Whole now) q.whole w)) (g.tagged q.first x q.is)

some_lacks : {A B : Type 0} {tag : TagValue} {Q : Tree → A → Type 0} {R : Trees → B → Type 0} {now : ValuesLeft} → ((t : Tree) → Ahead now t → tag_of t ≡ tag) → (Ended now → ⊥) → LacksAll (Then Q R) now → LacksAll (Opt tag Q R) now
some_lacks {A} {B} {tag} {Q} {R} {now} tagged goes_on l = record { none = λ ts y p w. at ts y.0 y.1 p.cases w }
  where
    at : (ts : Trees) (o : Option A) (b : B) → OptCases tag Q R ts o b → Whole now ts → ⊥
    at ts None b q w = with_tag ts tagged goes_on w q.0
    at ts (Some x) b q w = l.none ts (x, b) q w

-- No value of that tag is next, and so none of the grammar.
pub unlike_lacks : {A : Type 0} {tag : TagValue} {Q : Tree → A → Type 0} {now : ValuesLeft} → Tagged tag Q → Unlike now tag → Lacks Q now
unlike_lacks g u = record { none = λ t x p a. u.none t a (g.tagged t x p) }

-- What reading an optional value that is there, or isn't, says.
abbrev pub Perhaps : {A B : Type 0} → (A → B) → TagValue → (Tree → B → Type 0) → ValuesLeft → Option A → ValuesLeft → Type 0
Perhaps f tag Q old (Some x) new = Gives Q old (f x) new
Perhaps f tag Q old None new = (new ≡ old) × Unlike old tag

-- What reading the next value, or the end of the content, says.
abbrev pub PerhapsNext : {A B : Type 0} → (A → B) → (Tree → B → Type 0) → ValuesLeft → Option A → ValuesLeft → Type 0
PerhapsNext f Q old (Some x) new = Gives Q old (f x) new
PerhapsNext f Q old None new = (new ≡ old) × Ended old

-- It is there, or isn't.
pub there : {A B : Type 0} (f : A → B) (tag : TagValue) {Q : Tree → B → Type 0} {old new : ValuesLeft} {x : A} (o : Option A) → o ≡ Some x → Perhaps f tag Q old o new → Gives Q old (f x) new
there {A} f tag {Q} {old} {new} o e h = subst (λ (p : Option A). Perhaps f tag Q old p new) e h

pub absent : {A B : Type 0} (f : A → B) {tag : TagValue} (Q : Tree → B → Type 0) {old new : ValuesLeft} (o : Option A) → o ≡ None → Perhaps f tag Q old o new → (new ≡ old) × Unlike old tag
absent {A} f {tag} Q {old} {new} o e h = subst (λ (p : Option A). Perhaps f tag Q old p new) e h

pub there_next : {A B : Type 0} (f : A → B) {Q : Tree → B → Type 0} {old new : ValuesLeft} {x : A} (o : Option A) → o ≡ Some x → PerhapsNext f Q old o new → Gives Q old (f x) new
there_next {A} f {Q} {old} {new} o e h = subst (λ (p : Option A). PerhapsNext f Q old p new) e h

pub absent_next : {A B : Type 0} (f : A → B) (Q : Tree → B → Type 0) {old new : ValuesLeft} (o : Option A) → o ≡ None → PerhapsNext f Q old o new → (new ≡ old) × Ended old
absent_next {A} f Q {old} {new} o e h = subst (λ (p : Option A). PerhapsNext f Q old p new) e h

opt_none : {A B : Type 0} {tag : TagValue} {Q : Tree → A → Type 0} (R : Trees → B → Type 0) {now : ValuesLeft} → Tagged tag Q → Unlike now tag → Step (Opt tag Q R) R (λ b. (None, b)) now now
opt_none R g u = record {
  gives = λ b end h. record {
    trees = h.trees;
    took = h.took;
    is = record { cases = (left_without u h.took, h.is) };
    only = λ goes_on. none_lacks g u (h.only goes_on);
  };
  lacks = none_lacks g u;
  sound = u.sound;
}

opt_some : {A B : Type 0} {tag : TagValue} {Q : Tree → A → Type 0} (R : Trees → B → Type 0) {now new : ValuesLeft} {x : A} → Tagged tag Q → Gives Q now x new → Step (Opt tag Q R) R (λ b. (Some x, b)) now new
opt_some {tag = tag} {Q} R {now} {new} {x} g h =
    let t = then_step R h in
    let tagged = took_tagged h.took (g.tagged h.tree x h.is) in
    let lacks : LacksAll R new → LacksAll (Opt tag Q R) now = λ l. some_lacks tagged (λ e. ended_none e h.took) (t.lacks l) in
    record {
      gives = λ b end k. let whole = t.gives b end k in record { trees = whole.trees; took = whole.took; is = record { cases = whole.is }; only = λ goes_on. lacks (k.only goes_on) };
      lacks = lacks;
      sound = t.sound;
    }

opt_step : {A B C : Type 0} (f : A → B) {tag : TagValue} {Q : Tree → B → Type 0} (R : Trees → C → Type 0) {now new : ValuesLeft} (o : Option A) → Tagged tag Q → Perhaps f tag Q now o new → Step (Opt tag Q R) R (λ b. (option_map f o, b)) now new
opt_step f {tag = tag} {Q} R {now} None g h = subst (λ (v : ValuesLeft). Step (Opt tag Q R) R (λ b. (None, b)) now v) (sym h.0) (opt_none R g h.1)
opt_step f R (Some x) g h = opt_some R g h

-- An optional field was read, or wasn't there.
pub next_opt_as : {A B C D : Type 0} {P : Trees → A → Type 0} {tag : TagValue} {Q : Tree → B → Type 0} {R : Trees → C → Type 0} {k : Option B × C → A} {start now new : ValuesLeft} {some : Bool} (f : D → B) (o : Option D)
    → Reading P (Opt tag Q R) k start now some → Tagged tag Q → Perhaps f tag Q now o new → Reading P R (λ b. k (option_map f o, b)) start new true
next_opt_as {R = R} f o s g h = step s (opt_step f R o g h)

-- An optional field was read, whose value is the grammar's own, or wasn't there.
pub next_opt : {A B C : Type 0} {P : Trees → A → Type 0} {tag : TagValue} {Q : Tree → B → Type 0} {R : Trees → C → Type 0} {k : Option B × C → A} {start now new : ValuesLeft} {some : Bool} (o : Option B)
    → Reading P (Opt tag Q R) k start now some → Tagged tag Q → Perhaps (λ x. x) tag Q now o new → Reading P R (λ b. k (o, b)) start new true
next_opt {P = P} {R = R} {k} {start} {new = new} o s g h = subst (λ (p : Option _). Reading P R (λ b. k (p, b)) start new true) (option_map_id o) (next_opt_as (λ x. x) o s g h)

opt_lacks : {A B : Type 0} {tag : TagValue} {Q : Tree → A → Type 0} (R : Trees → B → Type 0) {now : ValuesLeft} → LacksTagged tag Q now → LacksAll (Opt tag Q R) now
opt_lacks R l = some_lacks l.tagged l.goes_on (first_lacks R l.lacks)

-- An optional field was refused, and `?` passes that on.
pub stop_opt : {A B C D E : Type 0} {P : Trees → A → Type 0} {tag : TagValue} {Q : Tree → B → Type 0} {R : Trees → C → Type 0} {k : Option B × C → A} {start now : ValuesLeft} {some : Bool} (f : D → A) (new : ValuesLeft) (r : Result D (DecodeError E)) (e : DecodeError E)
    → Reading P (Opt tag Q R) k start now some → IsErr r × IsErrAnd r (λ x. x ≡ e) → OnContent e (LacksTagged tag Q now) → ReadsAllAs f P start r new
stop_opt {R = R} f new r e s a h = passed_on f new r e a (λ l. s.lacks (opt_lacks R l)) h

-- DEFAULT: OPTIONAL, where a value stands for the missing one.

default_is : {A B : Type 0} {tag : TagValue} {Q : Tree → A → Type 0} (missing : A) {R : Trees → B → Type 0} {ts : Trees} {b : B} (o : Option A) → OptCases tag Q R ts o b → Default tag Q missing R ts (unwrap_or o missing, b)
default_is missing None q = record { cases = inl (q.0, refl, q.1) }
default_is missing (Some x) q = record { cases = inr q }

default_lacks : {A B : Type 0} {tag : TagValue} {Q : Tree → A → Type 0} {missing : A} {R : Trees → B → Type 0} {now : ValuesLeft} → LacksAll (Opt tag Q R) now → LacksAll (Default tag Q missing R) now
default_lacks {tag = tag} {Q} {missing} {R} l = record {
  none = λ ts y p w. elim p.cases [
    | inl q ↦ l.none ts (None, y.1) (record { cases = (q.0, q.2) }) w
    | inr q ↦ l.none ts (Some y.0, y.1) (record { cases = q }) w
  ];
}

default_step : {A B : Type 0} {tag : TagValue} {Q : Tree → A → Type 0} (missing : A) {R : Trees → B → Type 0} {now new : ValuesLeft} (o : Option A) → Step (Opt tag Q R) R (λ b. (o, b)) now new → Step (Default tag Q missing R) R (λ b. (unwrap_or o missing, b)) now new
default_step missing o s = record {
  gives = λ b end h. let g = s.gives b end h in record { trees = g.trees; took = g.took; is = default_is missing o g.is.cases; only = λ goes_on. default_lacks (g.only goes_on) };
  lacks = λ l. default_lacks (s.lacks l);
  sound = s.sound;
}

mapped_or : {A B : Type 0} (f : A → B) (o : Option A) (d : A) → unwrap_or (option_map f o) (f d) ≡ f (unwrap_or o d)
mapped_or f None d = refl
mapped_or f (Some x) d = refl

-- A field with a default was read, or wasn't there.
pub next_default_as : {A B C D : Type 0} {P : Trees → A → Type 0} {tag : TagValue} {Q : Tree → B → Type 0} {R : Trees → C → Type 0} {k : B × C → A} {start now new : ValuesLeft} {some : Bool} (f : D → B) {d y : D} (o : Option D)
    → Reading P (Default tag Q (f d) R) k start now some → Tagged tag Q → Perhaps f tag Q now o new → y ≡ unwrap_or o d → Reading P R (λ b. k (f y, b)) start new true
next_default_as {B = B} {P = P} {R = R} {k} {start} {new = new} f {d} {y} o s g h e =
    let value : unwrap_or (option_map f o) (f d) ≡ f y = mapped_or f o d ∙ ap f (sym e) in
    subst (λ (z : B). Reading P R (λ b. k (z, b)) start new true) value (step s (default_step (f d) (option_map f o) (opt_step f R o g h)))

-- A field with a default was read, whose value is the grammar's own, or wasn't there.
pub next_default : {A B C : Type 0} {P : Trees → A → Type 0} {tag : TagValue} {Q : Tree → B → Type 0} {missing y : B} {R : Trees → C → Type 0} {k : B × C → A} {start now new : ValuesLeft} {some : Bool} (o : Option B)
    → Reading P (Default tag Q missing R) k start now some → Tagged tag Q → Perhaps (λ x. x) tag Q now o new → y ≡ unwrap_or o missing → Reading P R (λ b. k (y, b)) start new true
next_default {B = B} {k = k} {start} o s g h e = next_default_as (λ (x : B). x) o s g h e

-- A field with a default was refused, and `?` passes that on.
pub stop_default : {A B C D E : Type 0} {P : Trees → A → Type 0} {tag : TagValue} {Q : Tree → B → Type 0} {missing : B} {R : Trees → C → Type 0} {k : B × C → A} {start now : ValuesLeft} {some : Bool} (f : D → A) (new : ValuesLeft) (r : Result D (DecodeError E)) (e : DecodeError E)
    → Reading P (Default tag Q missing R) k start now some → IsErr r × IsErrAnd r (λ x. x ≡ e) → OnContent e (LacksTagged tag Q now) → ReadsAllAs f P start r new
stop_default {R = R} f new r e s a h = passed_on f new r e a (λ l. s.lacks (default_lacks (opt_lacks R l))) h

-- SEQUENCE OF, read in a loop.

-- A value that is next, and isn't of Q: the values are none of Q.
pub many_lacks : {A : Type 0} {Q : Tree → A → Type 0} {now : ValuesLeft} → Lacks Q now → (Ended now → ⊥) → LacksAll (Many Q) now
many_lacks {A} {Q} {now} l goes_on = record { none = λ ts xs p w. at ts xs p.cases w }
  where
    at : (ts : Trees) (xs : List A) → ManyCases Q ts xs → Whole now ts → ⊥
    at ts [] p w = goes_on (whole_none (subst (Whole now) p w))
    at ts (x ∷ xs) p w = l.none p.0 x p.3 (whole_first (subst (Whole now) p.2 w))

others_lack : {A : Type 0} {Q : Tree → A → Type 0} {now new : ValuesLeft} {t : Tree} → Took now t new → LacksAll (Many Q) new → LacksAll (Many Q) now
others_lack {A} {Q} {now} k l = record { none = λ ts xs p w. at ts xs p.cases w }
  where
    at : (ts : Trees) (xs : List A) → ManyCases Q ts xs → Whole now ts → ⊥
    at ts [] p w = ended_none (whole_none (subst (Whole now) p w)) k
    at ts (x ∷ xs) p w = l.none p.1 xs (record { cases = p.4 }) (whole_others k (subst (Whole now) p.2 w)).1

many_step : {A : Type 0} {Q : Tree → A → Type 0} {now new : ValuesLeft} {x : A} → Gives Q now x new → Step (Many Q) (Many Q) (λ xs. x ∷ xs) now new
many_step g = record {
  gives = λ xs end h. record {
    trees = more g.tree h.trees;
    took = took_more g.took h.took;
    is = record { cases = (g.tree, h.trees, refl, g.is, h.is.cases) };
    only = λ goes_on. others_lack g.took (h.only goes_on);
  };
  lacks = others_lack g.took;
  sound = g.took.goes.behind;
}

many_end : {A : Type 0} {Q : Tree → A → Type 0} {now : ValuesLeft} → now.failed ≡ false → Lacks Q now → GivesAll (Many Q) now [] now
many_end sound l = record { trees = none; took = took_none sound; is = record { cases = refl }; only = λ goes_on. many_lacks l goes_on }

-- A loop has read these values, and what it reads from now on comes after them.
pub record Listing {A B : Type 0} (P : Trees → B → Type 0) (Q : Tree → A → Type 0) (k : List A → B) (xs : List A) (start now : ValuesLeft) : Type 0 where
  pub gives : (ys : List A) (end : ValuesLeft) → GivesAll (Many Q) now ys end → GivesAll P start (k (xs ++ ys)) end
  pub lacks : LacksAll (Many Q) now → LacksAll P start

-- The loop begins.
pub list_begin : {A B : Type 0} {P : Trees → B → Type 0} {Q : Tree → A → Type 0} {k : List A → B} {start now : ValuesLeft} {some : Bool} → Reading P (Many Q) k start now some → Listing P Q k [] start now
list_begin s = record { gives = s.gives; lacks = s.lacks }

-- The loop has read one more value.
pub list_next : {A B : Type 0} {P : Trees → B → Type 0} {Q : Tree → A → Type 0} {k : List A → B} {xs ys : List A} {x : A} {start now new : ValuesLeft} → Listing P Q k xs start now → Gives Q now x new → ys ≡ xs ++ (x ∷ []) → Listing P Q k ys start new
list_next {P = P} {k = k} {xs} {ys} {x} {start} s g e =
    let m = many_step g in
    record {
      gives = λ zs end h. subst (λ (us : List _). GivesAll P start (k us) end) (sym (append_assoc xs (x ∷ []) zs) ∙ ap (λ (us : List _). us ++ zs) (sym e)) (s.gives (x ∷ zs) end (m.gives zs end h));
      lacks = λ l. s.lacks (m.lacks l);
    }

-- The loop has read one more value, where its values mean those of the grammar by f.
pub list_next_as : {A B D : Type 0} {P : Trees → B → Type 0} {Q : Tree → A → Type 0} {k : List A → B} (f : D → A) (xs : List D) {ys : List D} {x : D} {start now new : ValuesLeft} → Listing P Q k (map f xs) start now → Gives Q now (f x) new → ys ≡ xs ++ (x ∷ []) → Listing P Q k (map f ys) start new
list_next_as f xs {x = x} s g e = list_next s g (ap (map f) e ∙ map-append f xs (x ∷ []))

-- The loop ends, where no value of that tag is next.
pub list_end : {A B : Type 0} {P : Trees → B → Type 0} {tag : TagValue} {Q : Tree → A → Type 0} {k : List A → B} {xs : List A} {start now new : ValuesLeft} → Listing P Q k xs start now → Tagged tag Q → (new ≡ now) × Unlike now tag → GivesAll P start (k xs) new
list_end {P = P} {k = k} {xs} {start} {now} s g h =
    let lacks = unlike_lacks g h.1 in
    subst (λ (v : ValuesLeft). GivesAll P start (k xs) v) (sym h.0) (subst (λ (zs : List _). GivesAll P start (k zs) now) (append-nil xs) (s.gives [] now (many_end h.1.sound lacks)))

-- The loop ends, where the content has ended.
pub list_over : {A B : Type 0} {P : Trees → B → Type 0} {Q : Tree → A → Type 0} {k : List A → B} {xs : List A} {start now new : ValuesLeft} → Listing P Q k xs start now → (new ≡ now) × Ended now → GivesAll P start (k xs) new
list_over {P = P} {Q} {k} {xs} {start} {now} s h =
    let lacks : Lacks Q now = record { none = λ t x p a. ended_none h.1 a.1 } in
    subst (λ (v : ValuesLeft). GivesAll P start (k xs) v) (sym h.0) (subst (λ (zs : List _). GivesAll P start (k zs) now) (append-nil xs) (s.gives [] now (many_end h.1.sound lacks)))

-- A value was refused in the loop, and `?` passes that on: where values are read by their tag, or whichever is next.
pub list_stop : {A B D E : Type 0} (tag : TagValue) {P : Trees → B → Type 0} {Q : Tree → A → Type 0} {k : List A → B} {xs : List A} {start now : ValuesLeft} (f : D → B) (new : ValuesLeft) (r : Result D (DecodeError E)) (e : DecodeError E)
    → Listing P Q k xs start now → IsErr r × IsErrAnd r (λ x. x ≡ e) → OnContent e (LacksTagged tag Q now) → ReadsAllAs f P start r new
list_stop tag f new r e s a h = passed_on f new r e a (λ l. s.lacks (many_lacks l.lacks l.goes_on)) h

pub list_stop_next : {A B D E : Type 0} {P : Trees → B → Type 0} {Q : Tree → A → Type 0} {k : List A → B} {xs : List A} {start now : ValuesLeft} (f : D → B) (new : ValuesLeft) (r : Result D (DecodeError E)) (e : DecodeError E)
    → Listing P Q k xs start now → IsErr r × IsErrAnd r (λ x. x ≡ e) → OnContent e (Lacks Q now × (Ended now → ⊥)) → ReadsAllAs f P start r new
list_stop_next f new r e s a h = passed_on f new r e a (λ l. s.lacks (many_lacks l.0 l.1)) h
