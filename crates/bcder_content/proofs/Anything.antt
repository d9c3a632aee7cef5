-- A closure that reads a content of any form or tag exactly makes an exact reader of the value.
use Rattle.std.proofs.Common.{◌≡◌, ℕ, Bool, true, false, List, Result, Ok, Err, Option, Some, None, ap, ◌∙◌, subst}
use Rattle.bcder_content.specs.bcder_tree.declared.mode.Mode.{Mode}
use Rattle.bcder_content.specs.bcder_source.declared.error.DecodeError.{DecodeError}
use Rattle.bcder_content.specs.bcder_source.declared.error.DecodeError.TheVariants.{Content, Source, Memory}
use Rattle.bcder_content.specs.bcder_source.Errors.{OnContent}
use Rattle.bcder_content.specs.bcder_tree.Tags.{TagValue}
use Rattle.bcder_content.specs.bcder_tree.Tree.{Tree, Trees, primitive, constructed}
use Rattle.bcder_content.specs.declared.ending.Ending.{Ending}
use Rattle.bcder_content.specs.declared.ending.Span.{Span}
use Rattle.bcder_content.specs.declared.ending.Span.TheVariants.{Until, ToEnd}
use Rattle.bcder_content.specs.Contents.{ValuesLeft, octets, Ahead, EndsHere, Ended, tag_of, form_of}
use Rattle.bcder_primitive.specs.Plain.{LacksOctets}
use Rattle.bcder_content.specs.Openings.{ending_of}
use Rattle.bcder_content.specs.Exact.{Gives, Lacks, ReadsAs, ReadsOptAs, ReadsNextAs, LacksAll}
use Rattle.bcder_content.specs.Stops.{EndsUnread}
use Rattle.bcder_content.specs.ClosureReads.{Enters, Leaves, EntersOctets, LeavesOctets}
use Rattle.bcder_content.specs.Either.{in_octets, Meeting, ClosureReadsAny, AnyRefused, none_wanted, any_refused, any_goes_on, TakesCases, Takes, TakesNextCases, TakesNext, TakesOptCases, TakesOpt, WithTag, ReadsInAs}
use Rattle.bcder_content.proofs.Opening.{opens_tag}
use Rattle.bcder_content.proofs.Took.{took_front}
use Rattle.bcder_content.proofs.Inside.{whole_inside, took_inside, whole_octets, took_octets, tagged_lacks}

-- Each meeting with a content, in that mode, reads it exactly.
pub record AnyReads {T B E : Type 0} (meets : Meeting T E) (m : Mode) (f : T → B) (P : Tree → B → Type 0) : Type 0 where
  pub each : (form : Bool) (tag : TagValue) (v : ValuesLeft) (r : Result T (DecodeError E)) (w : ValuesLeft) → v.mode ≡ m → meets form tag v r w → ReadsInAs f P form tag v r w

-- Values of the grammar are of the kind that is wanted.
pub record Wanted {B : Type 0} (wants : TagValue → Bool → Type 0) (P : Tree → B → Type 0) : Type 0 where
  pub wanted : (t : Tree) (x : B) → P t x → wants (tag_of t) (form_of t)

enters_octets : {old inner : ValuesLeft} {tag : TagValue} {span : Span} → Enters old false tag span inner → EntersOctets old tag span (in_octets inner)
enters_octets n = record { opens = n.opens; mode = n.mode; before = n.before; sound = n.sound }

leaves_octets : {old end new : ValuesLeft} {span : Span} → Leaves old span end new → LeavesOctets old span (in_octets end) new
leaves_octets l = record { closes = l.closes; mode = l.mode; ending = l.ending; sound = l.sound; behind = l.behind }

-- A tree that is next has the tag and form that were opened.
constructed_next : {B : Type 0} (P : Tree → B → Type 0) {old inner : ValuesLeft} {tag : TagValue} {span : Span} → Enters old true tag span inner → LacksAll (λ (ts : Trees) (x : B). P (constructed tag ts) x) inner → Lacks P old
constructed_next {B} P {old} {inner} {tag} n l = record { none = λ t x p a. let o = opens_tag t n.opens (took_front a.1) in at t x p a o.0 o.1 }
  where
    at : (t : Tree) (x : B) → P t x → Ahead old t → tag_of t ≡ tag → form_of t ≡ true → ⊥
    at (primitive u v) x p a e f = absurd cc
    at (constructed u ts) x p a e f =
        let same : constructed u ts ≡ constructed tag ts = ap (λ (z : TagValue). constructed z ts) e in
        l.none ts x (subst (λ (t : Tree). P t x) same p) (whole_inside ts n (subst (Ahead old) same a))

primitive_next : {B : Type 0} (P : Tree → B → Type 0) {old inner : ValuesLeft} {tag : TagValue} {span : Span} → Enters old false tag span inner → LacksOctets (λ (c : List ℕ) (x : B). P (primitive tag c) x) (in_octets inner) → Lacks P old
primitive_next {B} P {old} {inner} {tag} n l = record { none = λ t x p a. let o = opens_tag t n.opens (took_front a.1) in at t x p a o.0 o.1 }
  where
    at : (t : Tree) (x : B) → P t x → Ahead old t → tag_of t ≡ tag → form_of t ≡ false → ⊥
    at (constructed u ts) x p a e f = absurd cc
    at (primitive u v) x p a e f =
        let same : primitive u v ≡ primitive tag v = ap (λ (z : TagValue). primitive z v) e in
        l.none v x (subst (λ (t : Tree). P t x) same p) (whole_octets v (enters_octets n) (subst (Ahead old) same a))

any_lacks : {T B E : Type 0} {meets : Meeting T E} {f : T → B} (P : Tree → B → Type 0) (old : ValuesLeft) (form : Bool) (tag : TagValue) (span : Span) (x : _) (pos : _) (end : ValuesLeft) → AnyReads meets old.mode f P → ClosureReadsAny meets old form tag span (Err (Content x pos)) end → Lacks P old
any_lacks P old true tag span x pos end exact on = constructed_next P on.enters (exact.each true tag on.inner (Err (Content x pos)) end on.enters.mode on.met)
any_lacks P old false tag span x pos end exact on = primitive_next P on.enters (exact.each false tag on.inner (Err (Content x pos)) end on.enters.mode on.met)

any_unread : {T B E : Type 0} {meets : Meeting T E} {f : T → B} (P : Tree → B → Type 0) (old : ValuesLeft) (form : Bool) (tag : TagValue) (span : Span) (x : T) (end : ValuesLeft) → AnyReads meets old.mode f P → ClosureReadsAny meets old form tag span (Ok x) end → EndsUnread span end.failed (octets end) → Lacks P old
any_unread P old true tag span x end exact on unread =
    let given = exact.each true tag on.inner (Ok x) end on.enters.mode on.met in
    let kind : end.end ≡ ending_of span = given.took.goes.end ∙ on.enters.end in
    constructed_next P on.enters (given.only (λ ended. unread.goes_on ended.sound (subst (λ (k : Ending). EndsHere k (octets end)) kind ended.ends)))
any_unread P old false tag (Until outer) x end exact on unread =
    let given = exact.each false tag on.inner (Ok x) end on.enters.mode on.met in
    primitive_next P on.enters (given.only (λ d. unread.goes_on d.sound d.ends))
any_unread P old false tag ToEnd x end exact on unread = let e : false ≡ true = on.enters.opens.how.0 in absurd cc

any_refusal : {T B E : Type 0} {meets : Meeting T E} {wants : TagValue → Bool → Type 0} {f : T → B} (P : Tree → B → Type 0) (old : ValuesLeft) (x : _) (pos : _) → Wanted wants P → AnyReads meets old.mode f P → AnyRefused meets wants old (Content x pos) → Lacks P old
any_refusal P old x pos kind exact h =
    elim h [
      | none_wanted n ↦ record { none = λ t y p a. n t a (kind.wanted t y p) }
      | any_refused form tag span end on ↦ any_lacks P old form tag span x pos end exact on
      | any_goes_on form tag span end y on unread ↦ any_unread P old form tag span y end exact on unread
    ]

any_gives : {T B E : Type 0} {meets : Meeting T E} {f : T → B} (P : Tree → B → Type 0) (old new : ValuesLeft) (form : Bool) (tag : TagValue) (span : Span) (x : T) (end : ValuesLeft) → AnyReads meets old.mode f P → ClosureReadsAny meets old form tag span (Ok x) end → Leaves old span end new → Gives P old (f x) new
any_gives P old new true tag span x end exact on l =
    let given = exact.each true tag on.inner (Ok x) end on.enters.mode on.met in
    record { tree = constructed tag given.trees; is = given.is; took = took_inside on.enters given.took l }
any_gives P old new false tag span x end exact on l =
    let given = exact.each false tag on.inner (Ok x) end on.enters.mode on.met in
    record { tree = primitive tag given.text; is = given.is; took = took_octets (enters_octets on.enters) given.goes.moved (leaves_octets l) }

takes_cases : {T B E : Type 0} {meets : Meeting T E} {wants : TagValue → Bool → Type 0} {f : T → B} {P : Tree → B → Type 0} (old new : ValuesLeft) (r : Result T (DecodeError E)) → Wanted wants P → AnyReads meets old.mode f P → TakesCases meets wants old r new → ReadsAs f P old r new
takes_cases {P = P} old new (Ok x) kind exact h = any_gives P old new h.0 h.1 h.2 x h.3 exact h.5 h.6
takes_cases {P = P} old new (Err (Content x pos)) kind exact h = any_refusal P old x pos kind exact h
takes_cases old new (Err (Source x)) kind exact h = tt
takes_cases old new (Err Memory) kind exact h = tt

-- A value of the kind that is wanted.
pub exact_any : {T B E : Type 0} {meets : Meeting T E} {wants : TagValue → Bool → Type 0} {f : T → B} {P : Tree → B → Type 0} {old new : ValuesLeft} {r : Result T (DecodeError E)} → Wanted wants P → AnyReads meets old.mode f P → Takes meets wants old r new → ReadsAs f P old r new
exact_any {old = old} {new} {r} kind exact h = takes_cases old new r kind exact h.cases

next_lacks : {E B : Type 0} (P : Tree → B → Type 0) (old : ValuesLeft) (e : DecodeError E) → OnContent e (Ended old → ⊥) → OnContent e (Lacks P old) → OnContent e (Lacks P old × (Ended old → ⊥))
next_lacks P old (Content x pos) g l = (l, g)
next_lacks P old (Source x) g l = tt
next_lacks P old Memory g l = tt

next_cases : {T B E : Type 0} {meets : Meeting T E} {wants : TagValue → Bool → Type 0} {f : T → B} {P : Tree → B → Type 0} (old new : ValuesLeft) (r : Result (Option T) (DecodeError E)) → Wanted wants P → AnyReads meets old.mode f P → TakesNextCases meets wants old r new → ReadsNextAs f P old r new
next_cases old new (Ok (Some x)) kind exact h = takes_cases old new (Ok x) kind exact h.cases
next_cases old new (Ok None) kind exact h = h
next_cases {P = P} old new (Err e) kind exact h = next_lacks P old e h.0 (takes_cases old new (Err e) kind exact h.1.cases)

-- The next value of the kind that is wanted, unless the content has ended.
pub exact_next : {T B E : Type 0} {meets : Meeting T E} {wants : TagValue → Bool → Type 0} {f : T → B} {P : Tree → B → Type 0} {old new : ValuesLeft} {r : Result (Option T) (DecodeError E)} → Wanted wants P → AnyReads meets old.mode f P → TakesNext meets wants old r new → ReadsNextAs f P old r new
exact_next {old = old} {new} {r} kind exact h = next_cases old new r kind exact h.cases

any_opt_cases : {T B E : Type 0} {meets : Meeting T E} {tag : TagValue} {f : T → B} {P : Tree → B → Type 0} (old new : ValuesLeft) (r : Result (Option T) (DecodeError E)) → Wanted (WithTag tag) P → AnyReads meets old.mode f P → TakesOptCases meets tag old r new → ReadsOptAs f tag P old r new
any_opt_cases old new (Ok (Some x)) kind exact h = takes_cases old new (Ok x) kind exact h.cases
any_opt_cases old new (Ok None) kind exact h = h
any_opt_cases {tag = tag} {f} {P} old new (Err e) kind exact h = tagged_lacks P old tag e h.0 (takes_cases old new (Err e) kind exact h.1.cases)

-- A value with that tag, where one is next.
pub exact_any_opt : {T B E : Type 0} {meets : Meeting T E} {tag : TagValue} {f : T → B} {P : Tree → B → Type 0} {old new : ValuesLeft} {r : Result (Option T) (DecodeError E)} → Wanted (WithTag tag) P → AnyReads meets old.mode f P → TakesOpt meets tag old r new → ReadsOptAs f tag P old r new
exact_any_opt {old = old} {new} {r} kind exact h = any_opt_cases old new r kind exact h.cases
