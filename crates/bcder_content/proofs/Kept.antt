-- A closure that reads values exactly, where their octets are kept.
use Rattle.std.proofs.Common.{◌≡◌, ℕ, ◌≤◌, true, false, List, [], ◌∷◌, length, Result, Ok, Err, IfOk, IfErr, Option, Some, None, refl, sym, ap, ◌∙◌, subst, arith}
use Rattle.std.proofs.lemmas.List.{append_cancel_left, append_cancel_right, take-take}
use Rattle.bcder_content.specs.bcder_tree.declared.mode.Mode.{Mode}
use Rattle.bcder_content.specs.bcder_source.declared.error.DecodeError.{DecodeError}
use Rattle.bcder_content.specs.bcder_source.declared.error.DecodeError.TheVariants.{Content, Source, Memory}
use Rattle.bcder_content.specs.bcder_source.Errors.{OnContent}
use Rattle.bcder_content.specs.bcder_tree.Tree.{Tree, Trees, none, more, Spells, SpellsAll}
use Rattle.bcder_content.specs.bcder_source.Views.{Reading, left, limited}
use Rattle.bcder_content.proofs.of_bcder_source.Moves.{left_moved}
use Rattle.bcder_content.specs.declared.ending.Ending.{Ending}
use Rattle.bcder_content.specs.declared.ending.Ending.TheVariants.{Definite, Indefinite, Unbounded}
use Rattle.bcder_content.specs.declared.constructed.Constructed.{Constructed}
use Rattle.bcder_content.specs.Contents.{ValuesLeft, octets, Goes, Took, TookAll, Ahead, EndsHere, Ended, Whole}
use Rattle.bcder_content.specs.Skips.{SkipsAll, NotWhole}
use denote.Ref.{MutBor}
use Rattle.bcder_content.specs.bcder_source.declared.error.ContentError.{ContentError}
use Rattle.bcder_content.specs.bcder_source.declared.pos.Pos.{Pos}
use Rattle.bcder_content.specs.Exact.{LacksAll, ReadsAs, ReadsAllAs}
use Rattle.bcder_content.specs.Grammar.{Any, Exactly, ExactlyAll}
use Rattle.bcder_content.specs.Here.{here}
use Rattle.bcder_content.specs.Kept.{CapturedValue}
use Rattle.bcder_content.specs.ClosureReads.{Reader, ClosureReadsIn}
use Rattle.bcder_content.specs.Captures.{rest_of, cut, Keeps, ReadsSome, was_failed, was_refused, Wants, closure_wants, octets_want, CapturesCases, Captures, CapturesAll}
use Rattle.bcder_content.proofs.Opening.{front_moves, cancel_more}
use Rattle.bcder_content.proofs.Inside.{ReadsEach, each_met}
use Rattle.bcder_content.proofs.Took.{ended_none, more_splits}

-- Cutting at the limit changes nothing of what may be read.
limited_twice : (l : Option ℕ) (s : List ℕ) → limited l (limited l s) ≡ limited l s
limited_twice None s = refl
limited_twice (Some n) s = take-take n n s (omega arith)

pub goes_cut : {v w : ValuesLeft} {text : List ℕ} → Goes v text w → Goes (cut v) text (cut w)
goes_cut g = record { moved = record { rest = left_moved g.moved; limit = g.moved.limit }; mode = g.mode; end = g.end; before = g.before; behind = g.behind }

ended_cut : {v : ValuesLeft} → Ended v → Ended (cut v)
ended_cut {v} e = record { sound = e.sound; ends = at v.end e.ends }
  where
    at : (end : Ending) → EndsHere end (octets v) → EndsHere end (octets (cut v))
    at Definite h = h
    at Indefinite h = let w = front_moves (octets (cut v)) (0 ∷ 0 ∷ []) (left h.0) (limited_twice v.limit v.rest ∙ left_moved h.1) in (w.0, w.1)
    at Unbounded h = limited_twice v.limit v.rest ∙ h

ended_uncut : {v : ValuesLeft} → Ended (cut v) → Ended v
ended_uncut {v} e = record { sound = e.sound; ends = at v.end e.ends }
  where
    at : (end : Ending) → EndsHere end (octets (cut v)) → EndsHere end (octets v)
    at Definite h = h
    at Indefinite h = let w = front_moves (octets v) (0 ∷ 0 ∷ []) (left h.0) (sym (limited_twice v.limit v.rest) ∙ left_moved h.1) in (w.0, w.1)
    at Unbounded h = sym (limited_twice v.limit v.rest) ∙ h

pub whole_cut : {v : ValuesLeft} {ts : Trees} → Whole v ts → Whole (cut v) ts
whole_cut w = record { behind = cut w.behind; took = record { text = w.took.text; spelled = w.took.spelled; goes = goes_cut w.took.goes }; ended = ended_cut w.ended }

-- What is left of the slice is what is left of the content.
end_is : {v new end : ValuesLeft} {text : List ℕ} → Goes v text new → Goes (cut v) text end → end ≡ cut new
end_is {v} {new} {end} {text} g h =
    let rest : end.rest ≡ left (octets new) = append_cancel_left text end.rest (left (octets new)) (sym h.moved.rest ∙ left_moved g.moved) in
    let limit : end.limit ≡ new.limit = cancel_more (length text) end.limit new.limit (sym h.moved.limit ∙ g.moved.limit) in
    ap (λ z. let w : ValuesLeft = record { mode = z; end = end.end; failed = end.failed; rest = end.rest; limit = end.limit } in w) (h.mode ∙ sym g.mode)
    ∙ ap (λ z. let w : ValuesLeft = record { mode = new.mode; end = z; failed = end.failed; rest = end.rest; limit = end.limit } in w) (h.end ∙ sym g.end)
    ∙ ap (λ z. let w : ValuesLeft = record { mode = new.mode; end = new.end; failed = z; rest = end.rest; limit = end.limit } in w) (h.behind ∙ sym g.behind)
    ∙ ap (λ z. let w : ValuesLeft = record { mode = new.mode; end = new.end; failed = new.failed; rest = z; limit = end.limit } in w) rest
    ∙ ap (λ z. let w : ValuesLeft = record { mode = new.mode; end = new.end; failed = new.failed; rest = left (octets new); limit = z } in w) limit

-- Octets that lie between the same ends are the same.
pub same_text : {v w : ValuesLeft} {a b : List ℕ} → Goes v a w → Goes v b w → a ≡ b
same_text {v} {w} {a} {b} g h = append_cancel_right a b w.rest (sym g.moved.rest ∙ h.moved.rest)

lacks_kept : {B : Type 0} {P : Trees → B → Type 0} {v : ValuesLeft} {m : Mode} → LacksAll P (cut v) → LacksAll (ExactlyAll m P) v
lacks_kept l = record { none = λ ts o p w. l.none ts p.x p.is (whole_cut w) }

in_slice : {F B D : Type 0} {m : Mode} {g : Reader F (Constructed Reading) (Unit {0}) D} {op : F} {f : Unit {0} → B} {P : Trees → B → Type 0} (v : ValuesLeft) {r : Result (Unit {0}) (DecodeError D)} {end : ValuesLeft} → v.mode ≡ m → ReadsEach m rest_of g op f P → ClosureReadsIn rest_of g op (cut v) r end → ReadsAllAs f P (cut v) r end
in_slice {F} {B} {D} {m} {g} {op} {f} {P} v {r} {end} mode exact on =
    subst (λ (w : ValuesLeft). ReadsAllAs f P (cut v) r w) on.ends
    (subst (λ (w : ValuesLeft). ReadsAllAs f P w r (here rest_of on.left)) on.starts
    (each_met exact on.given on.left r (ap (λ (w : ValuesLeft). w.mode) on.starts ∙ mode) on.met))

kept_cases : {F B D E : Type 0} {g : Reader F (Constructed Reading) (Unit {0}) D} {op : F} {f : Unit {0} → B} {P : Trees → B → Type 0} (v new : ValuesLeft) (r : Result CapturedValue (DecodeError E)) → ReadsEach v.mode rest_of g op f P → CapturesCases g op v r new → ReadsAllAs (λ c. c.octets) (ExactlyAll v.mode P) v r new
kept_cases {f = f} {P} v new (Ok c) exact h =
    let given = in_slice v refl exact h.ran in
    let text : given.took.text ≡ c.octets = same_text given.took.goes h.took.goes ∙ h.kept in
    let spelled = subst (SpellsAll v.mode given.trees) text given.took.spelled in
    let end : h.end ≡ cut new = end_is h.goes (subst (λ (z : List ℕ). Goes (cut v) z h.end) h.kept h.took.goes) in
    record {
      trees = given.trees;
      took = record { text = c.octets; spelled = spelled; goes = h.goes };
      is = record { x = f tt; is = given.is; spelled = spelled };
      only = λ goes_on. lacks_kept (given.only (λ e. goes_on (ended_uncut (subst Ended end e))));
    }
kept_cases v new (Err (Content x pos)) exact h =
    elim h.1 [
      | was_failed failed ↦ record { none = λ ts o p w. let e : true ≡ false = sym failed ∙ w.took.goes.before in absurd cc }
      | was_refused y at end on ↦ lacks_kept (in_slice v refl exact on)
    ]
kept_cases v new (Err (Source x)) exact h = tt
kept_cases v new (Err Memory) exact h = tt

-- Capturing with a closure that reads a content exactly.
pub exact_capture : {F B D E : Type 0} {g : Reader F (Constructed Reading) (Unit {0}) D} {op : F} {f : Unit {0} → B} {P : Trees → B → Type 0} {v new : ValuesLeft} {r : Result CapturedValue (DecodeError E)} → ReadsEach v.mode rest_of g op f P → Captures g op v r new → ReadsAllAs (λ c. c.octets) (ExactlyAll v.mode P) v r new
exact_capture {v = v} {new} {r} exact h = kept_cases v new r exact h.cases

-- What each call of a closure says is said of the call that ran on the slice.
ran_in : {F D : Type 0} {g : Reader F (Constructed Reading) (Unit {0}) D} {op : F} {r : Result (Unit {0}) (DecodeError D)} {v end : ValuesLeft} (Q : ValuesLeft → ValuesLeft → Type 0) → ((p q : MutBor (Constructed Reading)) → g.post op (p, tt) (r, (q, tt)) → Q (here rest_of p.now) (here rest_of q.now)) → ClosureReadsIn rest_of g op v r end → Q v end
ran_in {v = v} {end} Q each on =
    let at = each on.met.shown on.met.left on.met.met in
    let given = subst (λ (w : Constructed Reading). Q (here rest_of w) (here rest_of on.met.left.now)) on.met.shows at in
    let stop = subst (λ (w : Constructed Reading). Q (here rest_of on.given) (here rest_of w)) on.met.leaves given in
    subst (λ (w : ValuesLeft). Q w end) on.starts (subst (λ (w : ValuesLeft). Q (here rest_of on.given) w) on.ends stop)

-- A value that was read of the slice is read of the content, with the octets that were kept.
kept_spelled : {F D : Type 0} {g : Reader F (Constructed Reading) (Unit {0}) D} {op : F} {v new : ValuesLeft} {c : CapturedValue} {t : Tree} (h : Keeps g op v c new) → Took (cut v) t h.end → Spells v.mode t c.octets
kept_spelled {v = v} {c = c} {t} h k = subst (Spells v.mode t) (same_text k.goes h.took.goes ∙ h.kept) k.spelled

pub ahead_cut : {v : ValuesLeft} {t : Tree} → Ahead v t → Ahead (cut v) t
ahead_cut a = (cut a.0, record { text = a.1.text; spelled = a.1.spelled; goes = goes_cut a.1.goes })

-- The very octets that were kept were read.
pub keeps_goes : {F D E : Type 0} {g : Reader F (Constructed Reading) (Unit {0}) D} {op : F} {v new : ValuesLeft} (r : Result CapturedValue (DecodeError E)) → Captures g op v r new → IfOk r (λ c. Goes v c.octets new)
keeps_goes (Ok c) h = h.cases.goes
keeps_goes (Err e) h = tt

-- Where octets of values were read the content hadn't ended.
some_unended : {F D : Type 0} {g : Reader F (Constructed Reading) (Unit {0}) D} {op : F} {v : ValuesLeft} {count : ℕ} → ReadsSome g op v count → 1 ≤ count → Ended v → ⊥
some_unended {v = v} {count} s some e = at s.trees s.took s.long
  where
    at : (ts : Trees) (k : TookAll (cut v) ts s.end) → length k.text ≡ count → ⊥
    at none k long = let t : length k.text ≡ 0 = ap length k.spelled in let n : ⊥ = omega (arith, t, long, some) in n
    at (more t ts) k long = ended_none (ended_cut e) (more_splits k).first

-- Where the closure wants no memory at the end of a content, none is wanted there.
pub wants_unended : {F D : Type 0} {g : Reader F (Constructed Reading) (Unit {0}) D} {op : F} {v : ValuesLeft} → ((p q : MutBor (Constructed Reading)) → g.post op (p, tt) (Err Memory, (q, tt)) → Ended (here rest_of p.now) → ⊥) → Wants g op v → Ended v → ⊥
wants_unended each w e =
    elim w [
      | closure_wants end ran ↦ ran_in (λ a b. Ended a → ⊥) each ran (ended_cut e)
      | octets_want count some s ↦ some_unended s some e
    ]

-- Capturing with a closure that reads one value of any kind.
pub record AnyEach {F D : Type 0} (g : Reader F (Constructed Reading) (Unit {0}) D) (op : F) : Type 0 where
  pub each : (p q : MutBor (Constructed Reading)) (r : Result (Unit {0}) (DecodeError D)) → g.post op (p, tt) (r, (q, tt)) → ReadsAs (λ x. x) Any (here rest_of p.now) r (here rest_of q.now)

one_cases : {F D E : Type 0} {g : Reader F (Constructed Reading) (Unit {0}) D} {op : F} (v new : ValuesLeft) (r : Result CapturedValue (DecodeError E)) → AnyEach g op → CapturesCases g op v r new → ReadsAs (λ c. c.octets) (Exactly v.mode) v r new
one_cases {F} {D} {E} {g} {op} v new (Ok c) exact h =
    let given = ran_in (λ a b. ReadsAs {E = D} (λ x. x) Any a (Ok tt) b) (λ p q m. exact.each p q (Ok tt) m) h.ran in
    let spelled = kept_spelled h given.took in
    record { tree = given.tree; is = record { spelled = spelled }; took = record { text = c.octets; spelled = spelled; goes = h.goes } }
one_cases {F} {D} v new (Err (Content x pos)) exact h =
    elim h.1 [
      | was_failed failed ↦ record { none = λ t o p a. let e : true ≡ false = sym failed ∙ a.1.goes.before in absurd cc }
      | was_refused y at end on ↦ record { none = λ t o p a. (ran_in (λ b d. ReadsAs {E = D} (λ z. z) Any b (Err (Content y at)) d) (λ k l m. exact.each k l (Err (Content y at)) m) on).none t tt (record { any = tt }) (ahead_cut a) }
    ]
one_cases v new (Err (Source x)) exact h = tt
one_cases v new (Err Memory) exact h = tt

pub exact_one : {F D E : Type 0} {g : Reader F (Constructed Reading) (Unit {0}) D} {op : F} {v new : ValuesLeft} {r : Result CapturedValue (DecodeError E)} → AnyEach g op → Captures g op v r new → ReadsAs (λ c. c.octets) (Exactly v.mode) v r new
exact_one {v = v} {new} {r} exact h = one_cases v new r exact h.cases

-- Capturing with a closure that skips all values.
pub record AllEach {F D : Type 0} (g : Reader F (Constructed Reading) (Unit {0}) D) (op : F) : Type 0 where
  pub skipped : (p q : MutBor (Constructed Reading)) → g.post op (p, tt) (Ok tt, (q, tt)) → SkipsAll (here rest_of p.now) (here rest_of q.now)
  pub refused : (p q : MutBor (Constructed Reading)) (x : ContentError) (pos : Pos) → g.post op (p, tt) (Err (Content x pos), (q, tt)) → NotWhole (here rest_of p.now)

abbrev pub AllCases : {E : Type 0} → ValuesLeft → Result CapturedValue (DecodeError E) → ValuesLeft → Type 0
AllCases v r new = IfOk r (λ c. CapturesAll v c new) × IfErr r (λ e. OnContent e (NotWhole v))

all_cases : {F D E : Type 0} {g : Reader F (Constructed Reading) (Unit {0}) D} {op : F} (v new : ValuesLeft) (r : Result CapturedValue (DecodeError E)) → AllEach g op → CapturesCases g op v r new → AllCases v r new
all_cases v new (Ok c) exact h =
    let s = ran_in (λ a b. SkipsAll a b) exact.skipped h.ran in
    let end : h.end ≡ cut new = end_is h.goes (subst (λ (z : List ℕ). Goes (cut v) z h.end) h.kept h.took.goes) in
    let took : TookAll v s.trees new = record { text = c.octets; spelled = subst (SpellsAll v.mode s.trees) (same_text s.took.goes h.took.goes ∙ h.kept) s.took.spelled; goes = h.goes } in
    (record { trees = s.trees; took = took; ended = ended_uncut (subst Ended end s.ended); kept = refl; mode = h.mode }, tt)
all_cases v new (Err (Content x pos)) exact h = (
  tt,
  elim h.1 [
    | was_failed failed ↦ record { none = λ ts w. let e : true ≡ false = sym failed ∙ w.took.goes.before in absurd cc }
    | was_refused y at end on ↦ record { none = λ ts w. (ran_in (λ a b. NotWhole a) (λ p q m. exact.refused p q y at m) on).none ts (whole_cut w) }
  ],
)
all_cases v new (Err (Source x)) exact h = (tt, tt)
all_cases v new (Err Memory) exact h = (tt, tt)

pub exact_all : {F D E : Type 0} {g : Reader F (Constructed Reading) (Unit {0}) D} {op : F} {v new : ValuesLeft} {r : Result CapturedValue (DecodeError E)} → AllEach g op → Captures g op v r new → AllCases v r new
exact_all {v = v} {new} {r} exact h = all_cases v new r exact h.cases
