-- A closure that reads a content exactly makes an exact reader of the value.
use Rattle.std.proofs.Common.{◌≡◌, ℕ, true, false, List, Result, Ok, Err, Option, Some, None, refl, sym, ap, ◌∙◌, subst}
use Rattle.std.specs.Fn.{FnOnceReturnsAtMut}
use denote.Ref.{MutBor}
use Rattle.bcder_content.specs.bcder_tree.declared.mode.Mode.{Mode}
use Rattle.bcder_content.specs.bcder_source.declared.error.DecodeError.{DecodeError}
use Rattle.bcder_content.specs.bcder_source.declared.error.DecodeError.TheVariants.{Content, Source, Memory}
use Rattle.bcder_content.specs.bcder_source.Errors.{OnContent}
use Rattle.bcder_content.specs.bcder_tree.Tags.{TagValue}
use Rattle.bcder_content.specs.bcder_tree.Tree.{Tree, Trees, primitive, constructed, SpellsAll}
use Rattle.bcder_content.specs.bcder_source.Views.{Moved}
use Rattle.bcder_content.specs.declared.ending.Ending.{Ending}
use Rattle.bcder_content.specs.declared.ending.Span.{Span}
use Rattle.bcder_content.specs.declared.ending.Span.TheVariants.{Until, ToEnd}
use Rattle.bcder_content.specs.declared.constructed.Constructed.{Constructed}
use Rattle.bcder_primitive.specs.declared.primitive.Primitive.{Primitive}
use Rattle.bcder_content.specs.Contents.{OctetsLeft, ValuesLeft, octets, Took, TookAll, Ahead, EndsHere, Ended, Whole, tag_of, form_of}
use Rattle.bcder_primitive.specs.Plain.{octets_in, WholeOctets, LacksOctets, GivesOctets, Drained, ReadsOctetsAs}
use Rattle.bcder_content.specs.Openings.{ending_of}
use Rattle.bcder_content.specs.Exact.{Lacks, ReadsAs, LacksTagged, ReadsOptAs, LacksAll, GivesAll, ReadsAllAs}
use Rattle.bcder_content.specs.Grammar.{Inside, OctetsOf}
use Rattle.bcder_content.specs.Here.{here, plain}
use Rattle.bcder_content.specs.Stops.{EndsUnread}
use Rattle.bcder_content.specs.ClosureReads.{Enters, Leaves, EntersOctets, LeavesOctets, Comes, Reader, ClosureReadsRefused, no_value, refused, goes_on, ClosureReadsCases, ClosureReads, ClosureReadsOptCases, ClosureReadsOpt, PlainRefused, no_octets, refused_octets, octets_go_on, PlainClosureReadsCases, PlainClosureReads, PlainClosureReadsOptCases, PlainClosureReadsOpt}
use Rattle.bcder_content.proofs.Opening.{constructed_closed, primitive_closed, constructed_content, primitive_content, ends_here}
use Rattle.bcder_content.proofs.Took.{took_front, one_took}

-- Each call of the closure, in that mode, reads the content exactly.
pub record ReadsEach {F S T B E : Type 0} (m : Mode) (rest : S → List ℕ) (g : Reader F (Constructed S) T E) (op : F) (f : T → B) (P : Trees → B → Type 0) : Type 0 where
  pub each : (p q : MutBor (Constructed S)) (r : Result T (DecodeError E)) → (here rest p.now).mode ≡ m → g.post op (p, tt) (r, (q, tt)) → ReadsAllAs f P (here rest p.now) r (here rest q.now)

pub record PlainEach {F S T B E : Type 0} (m : Mode) (rest : S → List ℕ) (g : Reader F (Primitive S) T E) (op : F) (f : T → B) (P : List ℕ → B → Type 0) : Type 0 where
  pub each : (p q : MutBor (Primitive S)) (r : Result T (DecodeError E)) → (plain rest p.now).mode ≡ m → g.post op (p, tt) (r, (q, tt)) → ReadsOctetsAs f P (plain rest p.now) r (plain rest q.now)

pub each_met : {F S T B E : Type 0} {m : Mode} {rest : S → List ℕ} {g : Reader F (Constructed S) T E} {op : F} {f : T → B} {P : Trees → B → Type 0} → ReadsEach m rest g op f P → (given stop : Constructed S) (r : Result T (DecodeError E)) → (here rest given).mode ≡ m → FnOnceReturnsAtMut g op given r stop → ReadsAllAs f P (here rest given) r (here rest stop)
each_met {F} {S} {T} {B} {E} {m} {rest} {g} {op} {f} {P} exact given stop r mode met =
    subst (λ (v : Constructed S). ReadsAllAs f P (here rest v) r (here rest stop)) met.shows
    (subst (λ (w : Constructed S). ReadsAllAs f P (here rest met.shown.now) r (here rest w)) met.leaves
    (exact.each met.shown met.left r (ap (λ (v : Constructed S). (here rest v).mode) met.shows ∙ mode) met.met))

pub plain_met : {F S T B E : Type 0} {m : Mode} {rest : S → List ℕ} {g : Reader F (Primitive S) T E} {op : F} {f : T → B} {P : List ℕ → B → Type 0} → PlainEach m rest g op f P → (given stop : Primitive S) (r : Result T (DecodeError E)) → (plain rest given).mode ≡ m → FnOnceReturnsAtMut g op given r stop → ReadsOctetsAs f P (plain rest given) r (plain rest stop)
plain_met {F} {S} {T} {B} {E} {m} {rest} {g} {op} {f} {P} exact given stop r mode met =
    subst (λ (v : Primitive S). ReadsOctetsAs f P (plain rest v) r (plain rest stop)) met.shows
    (subst (λ (w : Primitive S). ReadsOctetsAs f P (plain rest met.shown.now) r (plain rest w)) met.leaves
    (exact.each met.shown met.left r (ap (λ (v : Primitive S). (plain rest v).mode) met.shows ∙ mode) met.met))

-- The values of a value that is next are all that is left of its content.
pub whole_inside : {old inner : ValuesLeft} {tag : TagValue} {span : Span} (ts : Trees) → Enters old true tag span inner → Ahead old (constructed tag ts) → Whole inner ts
whole_inside {old} {inner} {tag} {span} ts n a =
    let c = constructed_content n.opens (took_front a.1) in
    record {
      behind = record { mode = inner.mode; end = inner.end; failed = false; rest = c.end.rest; limit = c.end.limit };
      took = record {
        text = c.text;
        spelled = subst (λ (m : Mode). SpellsAll m ts c.text) (sym n.mode) c.spelled;
        goes = record { moved = record { rest = c.moved.rest; limit = c.moved.limit }; mode = refl; end = refl; before = n.sound; behind = refl };
      };
      ended = record { sound = refl; ends = subst (λ (e : Ending). EndsHere e (record { rest = c.end.rest; limit = c.end.limit })) (sym n.end) (ends_here span c.end c.new c.closes) };
    }

-- What was read inside a value, from its beginning to its end, is the value.
pub took_inside : {old inner end new : ValuesLeft} {tag : TagValue} {span : Span} {ts : Trees} → Enters old true tag span inner → TookAll inner ts end → Leaves old span end new → Took old (constructed tag ts) new
took_inside {old} {inner} {end} {new} {tag} {span} {ts} n k l =
    let c = constructed_closed n.opens (subst (λ (m : Mode). SpellsAll m ts k.text) n.mode k.spelled) k.goes.moved l.closes in
    record { text = c.text; spelled = c.spelled; goes = record { moved = c.moved; mode = l.mode; end = l.ending; before = n.before; behind = l.behind } }

-- Whoever goes into a value that can be taken finds its values, and leaves it where taking it ends.
pub walked : {old inner new : ValuesLeft} {tag : TagValue} {span : Span} (ts : Trees) → Enters old true tag span inner → Took old (constructed tag ts) new → (end : ValuesLeft) × TookAll inner ts end × Leaves old span end new
unfolding whole_inside
walked {old} {inner} {new} {tag} {span} ts n k =
    let c = constructed_content n.opens (took_front k) in
    let w = whole_inside ts n (new, k) in
    let behind : ValuesLeft = record { mode = old.mode; end = old.end; failed = false; rest = c.new.rest; limit = c.new.limit } in
    let leaves : Leaves old span w.behind behind = record { closes = c.closes; mode = refl; ending = refl; sound = refl; behind = refl } in
    let same : behind ≡ new = (one_took (took_inside n w.took leaves) k).1 in
    (w.behind, w.took, subst (λ (v : ValuesLeft). Leaves old span w.behind v) same leaves)

inside_lacks : {B : Type 0} {P : Trees → B → Type 0} {old inner : ValuesLeft} {tag : TagValue} {span : Span} → Enters old true tag span inner → LacksAll P inner → Lacks (Inside tag P) old
inside_lacks {B} {P} {old} n l = record { none = λ t x p a. l.none p.values x p.is (whole_inside p.values n (subst (Ahead old) p.whole a)) }

-- A content that was left unread isn't the whole.
inside_goes_on : {B : Type 0} {P : Trees → B → Type 0} {old inner end stop : ValuesLeft} {tag : TagValue} {span : Span} {x : B} → Enters old true tag span inner → GivesAll P inner x end → end ≡ stop → EndsUnread span stop.failed (octets stop) → Lacks (Inside tag P) old
inside_goes_on {B} {P} {old} {inner} {end} {stop} {tag} {span} n given same unread =
    inside_lacks n (given.only (λ ended. at (subst Ended same ended)))
  where
    kind : stop.end ≡ ending_of span
    kind = sym (ap (λ (v : ValuesLeft). v.end) same) ∙ given.took.goes.end ∙ n.end

    at : Ended stop → ⊥
    at h = unread.goes_on h.sound (subst (λ (e : Ending). EndsHere e (octets stop)) kind h.ends)

inside_refused : {F S T B E : Type 0} {rest : S → List ℕ} {g : Reader F (Constructed S) T E} {op : F} {f : T → B} {P : Trees → B → Type 0} {old : ValuesLeft} {tag : TagValue} (x : _) (pos : _) → ReadsEach old.mode rest g op f P → ClosureReadsRefused rest g op old tag (Content x pos) → Lacks (Inside tag P) old
inside_refused {F} {S} {T} {B} {E} {rest} {g} {op} {f} {P} {old} {tag} x pos exact h =
    elim h [
      | no_value n ↦ record { none = λ t v p a. n.none t a (ap tag_of p.whole) (ap form_of p.whole) }
      | refused span end on ↦ inside_lacks on.enters (each_met exact on.given on.left (Err (Content x pos)) on.enters.mode on.met)
      | goes_on span end v on unread ↦ inside_goes_on on.enters (each_met exact on.given on.left (Ok v) on.enters.mode on.met) on.ends unread
    ]

inside_cases : {F S T B E : Type 0} {rest : S → List ℕ} {g : Reader F (Constructed S) T E} {op : F} {f : T → B} {P : Trees → B → Type 0} (old new : ValuesLeft) (tag : TagValue) (r : Result T (DecodeError E)) → ReadsEach old.mode rest g op f P → ClosureReadsCases rest g op old tag r new → ReadsAs f (Inside tag P) old r new
inside_cases {rest = rest} {g} {op} {f} {P} old new tag (Ok x) exact h =
    let on = h.2 in
    let given = each_met exact on.given on.left (Ok x) on.enters.mode on.met in
    record {
      tree = constructed tag given.trees;
      is = record { values = given.trees; whole = refl; is = given.is };
      took = took_inside on.enters (subst (TookAll (here rest on.given) given.trees) on.ends given.took) h.3;
    }
inside_cases old new tag (Err (Content x pos)) exact h = inside_refused x pos exact h
inside_cases old new tag (Err (Source x)) exact h = tt
inside_cases old new tag (Err Memory) exact h = tt

pub exact_each : {F S T B E : Type 0} {rest : S → List ℕ} {g : Reader F (Constructed S) T E} {op : F} {f : T → B} {P : Trees → B → Type 0} {old new : ValuesLeft} {tag : TagValue} {r : Result T (DecodeError E)} → ReadsEach old.mode rest g op f P → ClosureReads rest g op old tag r new → ReadsAs f (Inside tag P) old r new
exact_each {old = old} {new} {tag} {r} exact h = inside_cases old new tag r exact h.cases

-- A refusal where a value of that tag comes.
pub tagged_lacks : {E B : Type 0} (P : Tree → B → Type 0) (old : ValuesLeft) (tag : TagValue) (e : DecodeError E) → OnContent e (Comes old tag) → OnContent e (Lacks P old) → OnContent e (LacksTagged tag P old)
tagged_lacks P old tag (Content x pos) c l = record { tagged = c.tagged; lacks = l; goes_on = c.goes_on; other = c.other }
tagged_lacks P old tag (Source x) c l = tt
tagged_lacks P old tag Memory c l = tt

opt_cases : {F S T B E : Type 0} {rest : S → List ℕ} {g : Reader F (Constructed S) T E} {op : F} {f : T → B} {P : Trees → B → Type 0} (old new : ValuesLeft) (tag : TagValue) (r : Result (Option T) (DecodeError E)) → ReadsEach old.mode rest g op f P → ClosureReadsOptCases rest g op old tag r new → ReadsOptAs f tag (Inside tag P) old r new
opt_cases old new tag (Ok (Some x)) exact h = inside_cases old new tag (Ok x) exact h.cases
opt_cases old new tag (Ok None) exact h = h
opt_cases {f = f} {P} old new tag (Err e) exact h = tagged_lacks (Inside tag P) old tag e h.0 (inside_cases old new tag (Err e) exact h.1.cases)

pub exact_opt : {F S T B E : Type 0} {rest : S → List ℕ} {g : Reader F (Constructed S) T E} {op : F} {f : T → B} {P : Trees → B → Type 0} {old new : ValuesLeft} {tag : TagValue} {r : Result (Option T) (DecodeError E)} → ReadsEach old.mode rest g op f P → ClosureReadsOpt rest g op old tag r new → ReadsOptAs f tag (Inside tag P) old r new
exact_opt {old = old} {new} {tag} {r} exact h = opt_cases old new tag r exact h.cases

-- The octets of a primitive value that is next are all that is left of its content.
pub whole_octets : {old : ValuesLeft} {inner : OctetsLeft} {tag : TagValue} {span : Span} (v : List ℕ) → EntersOctets old tag span inner → Ahead old (primitive tag v) → WholeOctets inner v
whole_octets {old} {inner} {tag} {span = Until outer} v n a =
    let c = primitive_content n.opens (took_front a.1) in
    record {
      behind = record { mode = inner.mode; failed = false; rest = c.end.rest; limit = c.end.limit };
      goes = record { moved = record { rest = c.moved.rest; limit = c.moved.limit }; mode = refl; before = n.sound; behind = refl };
      drained = record { sound = refl; ends = c.closes.0 };
    }
whole_octets {span = ToEnd} v n a = let e : false ≡ true = n.opens.how.0 in absurd cc

octets_lack : {B : Type 0} {P : List ℕ → B → Type 0} {old : ValuesLeft} {inner : OctetsLeft} {tag : TagValue} {span : Span} → EntersOctets old tag span inner → LacksOctets P inner → Lacks (OctetsOf tag P) old
octets_lack {B} {P} {old} n l = record { none = λ t x p a. l.none p.content x p.is (whole_octets p.content n (subst (Ahead old) p.whole a)) }

octets_unread : {B : Type 0} {P : List ℕ → B → Type 0} {old : ValuesLeft} {inner end stop : OctetsLeft} {tag : TagValue} {span : Span} {x : B} → EntersOctets old tag span inner → GivesOctets P inner x end → end ≡ stop → EndsUnread span stop.failed (octets_in stop) → Lacks (OctetsOf tag P) old
octets_unread {B} {P} {old} {inner} {end} {stop} {tag} {span = Until outer} n given same unread =
    octets_lack n (given.only (λ d. let e = subst Drained same d in unread.goes_on e.sound e.ends))
octets_unread {span = ToEnd} n given same unread = let e : false ≡ true = n.opens.how.0 in absurd cc

octets_refused : {F S T B E : Type 0} {rest : S → List ℕ} {g : Reader F (Primitive S) T E} {op : F} {f : T → B} {P : List ℕ → B → Type 0} {old : ValuesLeft} {tag : TagValue} (x : _) (pos : _) → PlainEach old.mode rest g op f P → PlainRefused rest g op old tag (Content x pos) → Lacks (OctetsOf tag P) old
octets_refused {F} {S} {T} {B} {E} {rest} {g} {op} {f} {P} {old} {tag} x pos exact h =
    elim h [
      | no_octets n ↦ record { none = λ t v p a. n.none t a (ap tag_of p.whole) (ap form_of p.whole) }
      | refused_octets span end on ↦ octets_lack on.enters (plain_met exact on.given on.left (Err (Content x pos)) on.enters.mode on.met)
      | octets_go_on span end v on unread ↦ octets_unread on.enters (plain_met exact on.given on.left (Ok v) on.enters.mode on.met) on.ends unread
    ]

pub took_octets : {old new : ValuesLeft} {inner end : OctetsLeft} {tag : TagValue} {span : Span} {v : List ℕ} → EntersOctets old tag span inner → Moved (octets_in inner) v (octets_in end) → LeavesOctets old span end new → Took old (primitive tag v) new
took_octets n m l =
    let c = primitive_closed n.opens m l.closes in
    record { text = c.text; spelled = c.spelled; goes = record { moved = c.moved; mode = l.mode; end = l.ending; before = n.before; behind = l.behind } }

octets_cases : {F S T B E : Type 0} {rest : S → List ℕ} {g : Reader F (Primitive S) T E} {op : F} {f : T → B} {P : List ℕ → B → Type 0} (old new : ValuesLeft) (tag : TagValue) (r : Result T (DecodeError E)) → PlainEach old.mode rest g op f P → PlainClosureReadsCases rest g op old tag r new → ReadsAs f (OctetsOf tag P) old r new
octets_cases {rest = rest} {g} {op} {f} {P} old new tag (Ok x) exact h =
    let on = h.2 in
    let given = plain_met exact on.given on.left (Ok x) on.enters.mode on.met in
    record {
      tree = primitive tag given.text;
      is = record { content = given.text; whole = refl; is = given.is };
      took = took_octets on.enters (subst (λ (p : OctetsLeft). Moved (octets_in (plain rest on.given)) given.text (octets_in p)) on.ends given.goes.moved) h.3;
    }
octets_cases old new tag (Err (Content x pos)) exact h = octets_refused x pos exact h
octets_cases old new tag (Err (Source x)) exact h = tt
octets_cases old new tag (Err Memory) exact h = tt

pub exact_octets : {F S T B E : Type 0} {rest : S → List ℕ} {g : Reader F (Primitive S) T E} {op : F} {f : T → B} {P : List ℕ → B → Type 0} {old new : ValuesLeft} {tag : TagValue} {r : Result T (DecodeError E)} → PlainEach old.mode rest g op f P → PlainClosureReads rest g op old tag r new → ReadsAs f (OctetsOf tag P) old r new
exact_octets {old = old} {new} {tag} {r} exact h = octets_cases old new tag r exact h.cases

opt_octets_cases : {F S T B E : Type 0} {rest : S → List ℕ} {g : Reader F (Primitive S) T E} {op : F} {f : T → B} {P : List ℕ → B → Type 0} (old new : ValuesLeft) (tag : TagValue) (r : Result (Option T) (DecodeError E)) → PlainEach old.mode rest g op f P → PlainClosureReadsOptCases rest g op old tag r new → ReadsOptAs f tag (OctetsOf tag P) old r new
opt_octets_cases old new tag (Ok (Some x)) exact h = octets_cases old new tag (Ok x) exact h.cases
opt_octets_cases old new tag (Ok None) exact h = h
opt_octets_cases {f = f} {P} old new tag (Err e) exact h = tagged_lacks (OctetsOf tag P) old tag e h.0 (octets_cases old new tag (Err e) exact h.1.cases)

pub exact_opt_octets : {F S T B E : Type 0} {rest : S → List ℕ} {g : Reader F (Primitive S) T E} {op : F} {f : T → B} {P : List ℕ → B → Type 0} {old new : ValuesLeft} {tag : TagValue} {r : Result (Option T) (DecodeError E)} → PlainEach old.mode rest g op f P → PlainClosureReadsOpt rest g op old tag r new → ReadsOptAs f tag (OctetsOf tag P) old r new
exact_opt_octets {old = old} {new} {tag} {r} exact h = opt_octets_cases old new tag r exact h.cases
