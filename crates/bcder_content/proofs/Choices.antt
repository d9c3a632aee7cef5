-- Values that pass a test, mean something, or are one of two (CHOICE).
use Rattle.std.proofs.Common.{Bool, ℕ, ◌≡◌, Result, Ok, Err, refl, sym, ap, ◌∙◌, subst, inl, inr}
use Rattle.std.specs.Result.{IsErr, IsErrAnd}
use Rattle.bcder_content.specs.bcder_tree.Tags.{TagValue, universal}
use Rattle.bcder_content.specs.bcder_tree.Tree.{Tree, Trees}
use Rattle.bcder_content.specs.bcder_source.Errors.{OnContent}
use Rattle.bcder_content.specs.bcder_source.declared.error.DecodeError.{DecodeError}
use Rattle.bcder_content.specs.Contents.{ValuesLeft, Unlike}
use Rattle.bcder_content.specs.Exact.{Gives, Lacks, LacksTagged, LacksAll, ReadsAs}
use Rattle.bcder_content.specs.Grammar.{Where, OneOf, As, Then, Tagged, One}
use Rattle.bcder_content.proofs.Taking.{weaker}
use Rattle.bcder_content.proofs.Took.{one_took}
use Rattle.bcder_content.proofs.Forests.{Reading, first_lacks, unlike_lacks}

-- Why a value was refused, `?` passes on.
pub stop_value : {A B D E : Type 0} (f : D → A) {P : Tree → A → Type 0} {now : ValuesLeft} (new : ValuesLeft) (r : Result D (DecodeError E)) (e : DecodeError E) → IsErr r × IsErrAnd r (λ x. x ≡ e) → (B → Lacks P now) → OnContent e B → ReadsAs f P now r new
stop_value f new (Ok x) e a h fact = absurd a.1
stop_value {E = E} f {P} {now} new (Err x) e a h fact = subst (λ (y : DecodeError E). OnContent y (Lacks P now)) (sym a.1) (weaker e h fact)

-- A test of a value.

pub such_gives : {A : Type 0} {Q : Tree → A → Type 0} {passes : A → Type 0} {now new : ValuesLeft} {x : A} → Gives Q now x new → passes x → Gives (Where Q passes) now x new
such_gives g h = record { tree = g.tree; is = record { is = g.is; meets = h }; took = g.took }

pub such_lacks : {A : Type 0} {Q : Tree → A → Type 0} {passes : A → Type 0} {now : ValuesLeft} → Lacks Q now → Lacks (Where Q passes) now
such_lacks l = record { none = λ t x p a. l.none t x p.is a }

pub such_refused : {A : Type 0} {Q : Tree → A → Type 0} {passes : A → Type 0} {now new : ValuesLeft} {x : A} → One Q → Gives Q now x new → (passes x → ⊥) → Lacks (Where Q passes) now
such_refused {A} {Q} {passes} {now} {new} {x} one g refuses = record {
  none = λ t y p a.
      let e = (one_took g.took a.1).0 in
      refuses (subst passes (one.one t y x p.is (subst (λ (u : Tree). Q u x) e g.is)) p.meets);
}

-- A field was read that doesn't pass its test.
pub stop_such : {A B C : Type 0} {P : Trees → A → Type 0} {Q : Tree → B → Type 0} {passes : B → Type 0} {R : Trees → C → Type 0} {k : B × C → A} {start now new : ValuesLeft} {some : Bool} {x : B} → Reading P (Then (Where Q passes) R) k start now some → One Q → Gives Q now x new → (passes x → ⊥) → LacksAll P start
stop_such {R = R} s one g refuses = s.lacks (first_lacks R (such_refused one g refuses))

-- What a value means.

pub as_gives : {A B : Type 0} {Q : Tree → A → Type 0} (f : A → B) {now new : ValuesLeft} {x : A} → Gives Q now x new → Gives (As Q f) now (f x) new
as_gives f {x = x} g = record { tree = g.tree; is = record { x = x; is = g.is; means = refl }; took = g.took }

pub as_lacks : {A B : Type 0} {Q : Tree → A → Type 0} (f : A → B) {now : ValuesLeft} → Lacks Q now → Lacks (As Q f) now
as_lacks f l = record { none = λ t y p a. l.none t p.x p.is a }

pub as_lacks_tagged : {A B : Type 0} {tag : TagValue} {Q : Tree → A → Type 0} (f : A → B) {now : ValuesLeft} → LacksTagged tag Q now → LacksTagged tag (As Q f) now
as_lacks_tagged f l = record { tagged = l.tagged; lacks = as_lacks f l.lacks; goes_on = l.goes_on; other = l.other }

-- A reader of a value is one of what the value means.
pub as_reads : {A B C E : Type 0} (f : A → B) (Q : Tree → B → Type 0) (h : B → C) (old new : ValuesLeft) (r : Result A (DecodeError E)) → ReadsAs f Q old r new → ReadsAs (λ x. h (f x)) (As Q h) old r new
as_reads f Q h old new (Ok x) reads = as_gives h reads
as_reads f Q h old new (Err e) reads = weaker e (as_lacks h) reads

-- What was read, by another name.
pub gives_same : {A : Type 0} {Q : Tree → A → Type 0} {old new : ValuesLeft} {x y : A} → y ≡ x → Gives Q old x new → Gives Q old y new
gives_same {A} {Q} {old} {new} e g = subst (λ (z : A). Gives Q old z new) (sym e) g

-- A choice.

-- Tags with two numbers are two.
pub universal_apart : {n k : ℕ} → (n ≡ k → ⊥) → universal n ≡ universal k → ⊥
universal_apart apart e = apart (ap (λ (t : TagValue). t.number) e)

pub first_gives : {A : Type 0} {Q : Tree → A → Type 0} (R : Tree → A → Type 0) {now new : ValuesLeft} {x : A} → Gives Q now x new → Gives (OneOf Q R) now x new
first_gives R g = record { tree = g.tree; is = record { cases = inl g.is }; took = g.took }

pub second_gives : {A : Type 0} (Q : Tree → A → Type 0) {R : Tree → A → Type 0} {now mid new : ValuesLeft} {tag : TagValue} {x : A} → (mid ≡ now) × Unlike now tag → Gives R mid x new → Gives (OneOf Q R) now x new
second_gives Q {R} {new = new} {x = x} h g =
    let r : Gives R _ x new = subst (λ (v : ValuesLeft). Gives R v x new) h.0 g in
    record { tree = r.tree; is = record { cases = inr r.is }; took = r.took }

-- No value of either is next.
pub both_lack : {A : Type 0} {Q R : Tree → A → Type 0} {now : ValuesLeft} → Lacks Q now → Lacks R now → Lacks (OneOf Q R) now
both_lack l m = record {
  none = λ t x p a. elim p.cases [
    | inl q ↦ l.none t x q a
    | inr r ↦ m.none t x r a
  ];
}

-- No value of the first tag is next, and none of the second.
pub second_lacks : {A : Type 0} {Q R : Tree → A → Type 0} {tag : TagValue} {now mid : ValuesLeft} → Tagged tag Q → (mid ≡ now) × Unlike now tag → Lacks R mid → Lacks (OneOf Q R) now
second_lacks {R = R} g h l = both_lack (unlike_lacks g h.1) (subst (Lacks R) h.0 l)

-- A value of the first tag is next, which isn't of the first.
pub choice_lacks : {A : Type 0} {Q R : Tree → A → Type 0} {tag other : TagValue} {now : ValuesLeft} → Tagged other R → (tag ≡ other → ⊥) → LacksTagged tag Q now → Lacks (OneOf Q R) now
choice_lacks g apart l = both_lack l.lacks (record { none = λ t x p a. apart (sym (l.tagged t a) ∙ g.tagged t x p) })
