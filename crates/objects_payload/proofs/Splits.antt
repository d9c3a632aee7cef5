-- The first of the AS numbers that octets spell.
use Rattle.std.proofs.Common.{◌≡◌, ◌≢◌, ℕ, ◌+◌, ◌<◌, ◌≤◌, ◌^◌, List, [], ◌∷◌, ◌++◌, length, drop, map, Result, Ok, Err, IfOk, Option, Some, None, refl, sym, ap, ◌∙◌, subst, arith}
use Rattle.std.specs.Prelude.{IfNone, IfSome, ⊤}
use Rattle.std.specs.Iterator.{DrainsIf, YieldsFirstBy}
use Rattle.std.proofs.lemmas.Iterator.{items_from_drains}
use Rattle.std.proofs.lemmas.Iterator.Consumers.{YieldsList-from_first}
use denote.Ref.{MutBor}
use Rattle.std.proofs.Math.Logic.{∥∥₁_elim}
use Rattle.std.specs.declared.convert.Infallible.{Infallible}
use Rattle.objects_payload.specs.bcder_tree.declared.mode.Mode.{Mode}
use Rattle.objects_payload.specs.bcder_tree.Front.{Front}
use Rattle.objects_payload.specs.bcder_tree.Tags.{integer_tag}
use Rattle.objects_payload.specs.bcder_tree.Tree.{SpellsAll, Tree, Trees, none, more}
use Rattle.objects_payload.specs.bcder_source.Errors.{OnContent}
use Rattle.objects_payload.specs.bcder_source.Views.{Reading, left}
use Rattle.objects_payload.specs.bcder_source.declared.error.DecodeError.{DecodeError}
use Rattle.objects_payload.specs.bcder_source.declared.error.DecodeError.TheVariants.{Content, Source, Memory}
use Rattle.objects_payload.specs.bcder_content.declared.constructed.Constructed.{Constructed}
use Rattle.objects_payload.specs.bcder_content.Captures.{rest_of, ReadsFront, RefusesFront}
use Rattle.objects_payload.specs.bcder_content.Contents.{Ahead, TookAll, Unlike, ValuesLeft, octets}
use Rattle.objects_payload.specs.bcder_content.Exact.{Gives, LacksTagged}
use Rattle.objects_payload.specs.bcder_content.Here.{here}
use Rattle.objects_payload.specs.bcder_content.ClosureReads.{ClosureReadsIn, Reader, fresh}
use Rattle.objects_payload.specs.resources_asn.Encodings.{IsAsId}
use Rattle.objects_payload.specs.resources_asn.Listed.{InList, IsListOf}
use Rattle.objects_payload.specs.resources_asn.Numbers.{Number}
use Rattle.std.specs.Coded.{Coded-set, coded_list, coded_ℕ}
use Rattle.std.proofs.Math.Seq.{drop-append_seam}
use Rattle.objects_payload.specs.bcder_content.Kept.{CapturedValue}
use Rattle.objects_payload.proofs.of_bcder_content.Forests.{Perhaps, absent, there}
use Rattle.objects_payload.proofs.of_bcder_content.Kept.{same_text}
use Rattle.objects_payload.proofs.of_bcder_content.Took.{ended_none, took_front, took_none, took_one}
use Rattle.objects_payload.proofs.of_bcder_source.Moves.{left_moved}
use Rattle.objects_payload.proofs.of_bcder_tree.Trees.{one_tree}
use Rattle.objects_payload.specs.Listing.{Listing, as_id_one, one_listing}
use Rattle.objects_payload.specs.Spelled.{SpellsAsIds, captured}
use Rattle.objects_payload.proofs.Contents.{listing_is}
use Rattle.objects_payload.proofs.Runs.{as_id_tagged}

-- What was read, if anything, are values.
pub number_taken : (v w : ValuesLeft) (o : Option Number) → Perhaps (λ a. a.value) integer_tag IsAsId v o w → (ts : Trees) × TookAll v ts w
number_taken v w None h = (none, subst (λ (z : ValuesLeft). TookAll v none z) (sym h.0) (took_none h.1.sound))
number_taken v w (Some a) g = (more g.tree none, took_one g.took)

-- What each call of a closure says is said of the call that ran.
ran_met : {F T D : Type 0} {g : Reader F (Constructed Reading) T D} {op : F} {r : Result T (DecodeError D)} {v end : ValuesLeft} (Q : ValuesLeft → ValuesLeft → Type 0)
    → ((p q : MutBor (Constructed Reading)) → g.post op (p, tt) (r, (q, tt)) → Q (here rest_of p.now) (here rest_of q.now)) → ClosureReadsIn rest_of g op v r end → Q v end
ran_met {v = v} {end} Q each on =
    let at = each on.met.shown on.met.left on.met.met in
    let given = subst (λ (w : Constructed Reading). Q (here rest_of w) (here rest_of on.met.left.now)) on.met.shows at in
    let stop = subst (λ (w : Constructed Reading). Q (here rest_of on.given) (here rest_of w)) on.met.leaves given in
    subst (λ (w : ValuesLeft). Q w end) on.starts (subst (λ (w : ValuesLeft). Q (here rest_of on.given) w) on.ends stop)

-- A value stands in front of octets: it is next.
front_ahead : {m : Mode} {o rest : List ℕ} {t : Tree} → Front m o t rest → Ahead (fresh m o) t
front_ahead {m} {o} {rest} f = (
  fresh m rest,
  record { text = f.text; spelled = f.spelled; goes = record { moved = record { rest = f.whole; limit = refl }; mode = refl; end = refl; before = refl; behind = refl } },
)

-- The octets spell a first AS number, and others after it.
record Firsts (m : Mode) (o : List ℕ) (ns : List ℕ) (n : ℕ) (others : List ℕ) : Type 0 where
  tree : Tree
  rest : List ℕ
  is : IsAsId tree n
  front : Front m o tree rest
  spelled : SpellsAsIds (captured m rest) others

firsts : (m : Mode) (o : List ℕ) (n : ℕ) (others : List ℕ) → SpellsAsIds (captured m o) (n ∷ others) → Firsts m o (n ∷ others) n others
firsts m o n others s =
    let p = s.is.cases in
    let all = subst (λ (ts : Trees). SpellsAll m ts o) p.2 s.spelled in
    record {
      tree = p.0;
      rest = all.1;
      is = p.3;
      front = record { text = all.0; spelled = all.2; whole = all.4 };
      spelled = record { trees = p.1; is = record { cases = p.4 }; spelled = all.3 };
    }

none_octets : (m : Mode) (o : List ℕ) → SpellsAsIds (captured m o) [] → o ≡ []
none_octets m o s = subst (λ (ts : Trees). SpellsAll m ts o) s.is.cases s.spelled

-- One was read of the octets: it is the first.
read_first : (m : Mode) (o : List ℕ) (n : ℕ) (end : ValuesLeft) (ns : List ℕ) → Gives IsAsId (fresh m o) n end → SpellsAsIds (captured m o) ns
    → (others : List ℕ) × SpellsAsIds (captured m (left (octets end))) others × (ns ≡ n ∷ others)
read_first m o n end [] g s = absurd (ended_none (record { sound = refl; ends = none_octets m o s }) g.took)
read_first m o n end (k ∷ others) g s =
    let f = firsts m o k others s in
    let e = one_tree f.tree g.tree f.front (took_front g.took) in
    let same : k ≡ n = as_id_one.one g.tree k n (subst (λ (t : Tree). IsAsId t k) e.0 f.is) g.is in
    (others, subst (λ (r : List ℕ). SpellsAsIds (captured m r) others) e.1 f.spelled, ap (λ (z : ℕ). z ∷ others) same)

-- None was next: the octets spell none.
none_there : {m : Mode} {o : List ℕ} → Unlike (fresh m o) integer_tag → (ns : List ℕ) → SpellsAsIds (captured m o) ns → ns ≡ []
none_there u [] s = refl
none_there {m} {o} u (n ∷ others) s = let f = firsts m o n others s in absurd (u.none f.tree (front_ahead f.front) (as_id_tagged.tagged f.tree n f.is))

-- Octets that spell AS numbers aren't refused.
none_refused : {m : Mode} {o : List ℕ} (e : DecodeError Infallible) → OnContent e (LacksTagged integer_tag IsAsId (fresh m o)) → e ≢ Memory → (ns : List ℕ) → SpellsAsIds (captured m o) ns → ns ≡ []
none_refused e l some [] s = refl
none_refused {m} {o} (Content x pos) l some (n ∷ others) s = let f = firsts m o n others s in absurd (l.lacks.none f.tree n f.is (front_ahead f.front))
none_refused (Source x) l some (n ∷ others) s = elim x [ ]
none_refused Memory l some (n ∷ others) s = absurd (some refl)

module _ {F : Type 0} {g : Reader F (Constructed Reading) (Option Number) Infallible} {op : F} {m : Mode} {o : List ℕ} where
  -- An AS number was read: it is the first, and the octets after it spell the others.
  pub split_some : (x : Option Number) (a : Number) (n count : ℕ) (behind : List ℕ) → x ≡ Some a → n ≡ a.value → ReadsFront g op m o x count → behind ≡ drop count o
      → ((p q : MutBor (Constructed Reading)) → g.post op (p, tt) (Ok x, (q, tt)) → Perhaps (λ (a : Number). a.value) integer_tag IsAsId (here rest_of p.now) x (here rest_of q.now))
      → (ns : List ℕ) → SpellsAsIds (captured m o) ns → (others : List ℕ) × SpellsAsIds (captured m behind) others × (ns ≡ n ∷ others)
  split_some x a n count behind is value h e each ns s =
      let gives : Gives IsAsId (fresh m o) a.value h.end = there _ _ x is (ran_met (λ v w. Perhaps (λ (a : Number). a.value) integer_tag IsAsId v x w) each h.ran) in
      let long : length gives.took.text ≡ count = ap length (same_text gives.took.goes h.took.goes) ∙ h.long in
      let whole : o ≡ gives.took.text ++ left (octets h.end) = left_moved gives.took.goes.moved in
      let rest : left (octets h.end) ≡ behind = sym (drop-append_seam gives.took.text (left (octets h.end))) ∙ ap (λ (n : ℕ). drop n (gives.took.text ++ left (octets h.end))) long ∙ ap (drop count) (sym whole) ∙ sym e in
      let f = read_first m o a.value h.end ns gives s in
      (f.0, subst (λ (r : List ℕ). SpellsAsIds (captured m r) f.0) rest f.1, f.2 ∙ ap (λ (k : ℕ). k ∷ f.0) (sym value))

  -- None was there: the octets spell none.
  pub split_none : (x : Option Number) (count : ℕ) → x ≡ None → ReadsFront g op m o x count
      → ((p q : MutBor (Constructed Reading)) → g.post op (p, tt) (Ok x, (q, tt)) → Perhaps (λ (a : Number). a.value) integer_tag IsAsId (here rest_of p.now) x (here rest_of q.now))
      → (ns : List ℕ) → SpellsAsIds (captured m o) ns → ns ≡ []
  split_none x count is h each = none_there (absent _ _ x is (ran_met (λ v w. Perhaps (λ (a : Number). a.value) integer_tag IsAsId v x w) each h.ran)).1

  -- The octets were refused: they spell none.
  pub split_refused : (e : DecodeError Infallible) → RefusesFront g op m o e
      → ((p q : MutBor (Constructed Reading)) → g.post op (p, tt) (Err e, (q, tt)) → OnContent e (LacksTagged integer_tag IsAsId (here rest_of p.now)) × (e ≢ Memory))
      → (ns : List ℕ) → SpellsAsIds (captured m o) ns → ns ≡ []
  split_refused e h each =
      let told = ran_met (λ v w. OnContent e (LacksTagged integer_tag IsAsId v) × (e ≢ Memory)) each h.ran in
      none_refused e told.0 told.1

-- Answers that are there, or aren't.

pub none_of_none : {A : Type 0} (P : Type 0) {r : Option A} → r ≡ None → P → IfNone r P
none_of_none {A} P e p = subst (λ (o : Option A). IfNone o P) (sym e) p

pub none_of_some : {A : Type 0} (P : Type 0) {r : Option A} {x : A} → r ≡ Some x → IfNone r P
none_of_some {A} P e = subst (λ (o : Option A). IfNone o P) (sym e) tt

pub some_of_none : {A : Type 0} (P : A → Type 0) {r : Option A} → r ≡ None → IfSome r P
some_of_none {A} P e = subst (λ (o : Option A). IfSome o P) (sym e) tt

pub some_of_some : {A : Type 0} (P : A → Type 0) {r : Option A} {x : A} → r ≡ Some x → P x → IfSome r P
some_of_some {A} P e p = subst (λ (o : Option A). IfSome o P) (sym e) p

-- What octets spell after the first AS number.
abbrev pub Splits : CapturedValue → ℕ → CapturedValue → Type 0
Splits c n d = (ns : List ℕ) → SpellsAsIds c ns → (others : List ℕ) × SpellsAsIds d others × (ns ≡ n ∷ others)

pub rest_listing : (c d : CapturedValue) (n : ℕ) → Listing c → Splits c n d → Listing d
rest_listing c d n x splits = ∥∥₁_elim x.1 (one_listing d) (λ s. let r = splits x.0 s in (r.0, ∣ r.1 ∣₁))

pub rest_is : (c d : CapturedValue) (n k : ℕ) (all ns others : List ℕ) → ns ≡ all → k ≡ n → ∥ SpellsAsIds c ns ∥₁ → Splits c n d → ∥ SpellsAsIds d others ∥₁ → all ≡ k ∷ others
rest_is c d n k all ns others view value h splits rest =
    sym view ∙ ∥∥₁_elim h (Coded-set (coded_list coded_ℕ) _ _) (λ s. let r = splits ns s in r.2 ∙ ap (λ (z : List ℕ). n ∷ z) (sym (listing_is d others r.0 rest r.1))) ∙ ap (λ (z : ℕ). z ∷ others) (sym value)

pub shorter : (s others : List ℕ) (n : ℕ) → s ≡ n ∷ others → length others < length s
shorter s others n e = let l = ap length e in omega arith

pub none_is : (c : CapturedValue) (ns : List ℕ) → ∥ SpellsAsIds c ns ∥₁ → ((xs : List ℕ) → SpellsAsIds c xs → xs ≡ []) → ns ≡ []
none_is c ns h empty = ∥∥₁_elim h (Coded-set (coded_list coded_ℕ) _ _) (λ s. empty ns s)

-- Octets that were lent, in their mode, are those that were kept.
pub same_captured : (c : CapturedValue) (m : Mode) (o : List ℕ) → m ≡ c.mode → o ≡ c.octets → captured m o ≡ c
same_captured c m o mode octets = λ i. record { mode = mode i; octets = octets i }

-- No more AS numbers are left than there were.
abbrev Steps : List ℕ → Option Number → List ℕ → Type 0
Steps = YieldsFirstBy (λ (a : Number). a.value) (λ (s : List ℕ). s)

pub steps_none : (s : List ℕ) (r : Option Number) → r ≡ None → s ≡ [] → Steps s r s
steps_none s r e empty = subst (λ (o : Option Number). Steps s o s) (sym e) (empty, empty)

-- All AS numbers that came, as a set.
pub set_of : {E : Type 0} (r : Result (List ℕ) E) (s all : List ℕ) → s ≡ all
    → IfOk r (λ set. (came : List Number) × DrainsIf Steps ⊤ s came × IsListOf (InList (map (λ (a : Number). a.value) came)) set) → IfOk r (IsListOf (InList all))
set_of (Ok set) s all e h = subst (λ (l : List ℕ). IsListOf (InList l) set) (items_from_drains h.0 h.1 (YieldsList-from_first (λ (a : Number). a.value) (λ (l : List ℕ). l) all e)) h.2
set_of (Err x) s all e h = tt

pub fits : (a b : ℕ) → a ≡ b → b ≤ 10000 → 0 + a < 2 ^ 64
fits a b e few = omega arith

pub at_most : (l xs : List ℕ) → l ≡ xs → length xs ≤ 10000 → length l ≤ 10000
at_most l xs e few = subst (λ (k : List ℕ). length k ≤ 10000) (sym e) few
