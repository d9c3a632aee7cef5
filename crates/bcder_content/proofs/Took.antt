-- Reading values one after the other: what was next, and what is left.
use Rattle.std.proofs.Common.{◌≡◌, ℕ, ◌<◌, Bool, false, List, [], ◌∷◌, ◌++◌, length, Option, None, Ok, refl, sym, ap, ◌∙◌, subst, append_assoc, length-append, arith}
use Rattle.std.proofs.lemmas.List.{append_cancel_left, append_cancel_right}
use Rattle.bcder_content.specs.bcder_tree.declared.mode.Mode.{Mode}
use Rattle.bcder_content.specs.bcder_tree.Tree.{Tree, Trees, none, more, Spells, SpellsAll}
use Rattle.bcder_content.specs.bcder_tree.Front.{Front}
use Rattle.bcder_content.specs.bcder_source.Views.{left, limited, more_limit}
use Rattle.bcder_content.proofs.of_bcder_tree.Fronts.{whole_front}
use Rattle.bcder_content.proofs.of_bcder_tree.Trees.{one_tree, tree_goes_on}
use Rattle.bcder_content.proofs.of_bcder_tree.Parts.{Ends}
use Rattle.bcder_content.proofs.of_bcder_source.Moves.{left_moved, moved_none, moved_both, more_more}
use Rattle.bcder_content.specs.declared.ending.Ending.{Ending}
use Rattle.bcder_content.specs.declared.ending.Ending.TheVariants.{Definite, Indefinite, Unbounded}
use Rattle.bcder_content.proofs.Opening.{cancel_more}
use Rattle.bcder_content.specs.Exact.{ReadsNextAs}
use Rattle.bcder_content.specs.Contents.{ValuesLeft, octets, Goes, Took, TookAll, Ahead, EndsHere, Ended, Whole}

abbrev content : Mode → Ending → Bool → List ℕ → Option ℕ → ValuesLeft
content m e f r l = record { mode = m; end = e; failed = f; rest = r; limit = l }

-- Contents of which the same is left are one.
same_left : {v w : ValuesLeft} → v.mode ≡ w.mode → v.end ≡ w.end → v.failed ≡ w.failed → v.rest ≡ w.rest → v.limit ≡ w.limit → v ≡ w
same_left {v} {w} m e f r l =
    ap (λ (z : Mode). content z v.end v.failed v.rest v.limit) m ∙ ap (λ (z : Ending). content w.mode z v.failed v.rest v.limit) e
    ∙ ap (λ (z : Bool). content w.mode w.end z v.rest v.limit) f ∙ ap (λ (z : List ℕ). content w.mode w.end w.failed z v.limit) r
    ∙ ap (λ (z : Option ℕ). content w.mode w.end w.failed w.rest z) l

-- What is left after the same octets of a content is one.
same_goes : {v w x : ValuesLeft} {a : List ℕ} → Goes v a w → Goes v a x → w ≡ x
same_goes {v} {w} {x} {a} g h =
    same_left (g.mode ∙ sym h.mode) (g.end ∙ sym h.end) (g.behind ∙ sym h.behind)
    (append_cancel_left a w.rest x.rest (sym g.moved.rest ∙ h.moved.rest))
    (cancel_more (length a) w.limit x.limit (sym g.moved.limit ∙ h.moved.limit))

-- The value that was read stood in front.
pub took_front : {v w : ValuesLeft} {t : Tree} → Took v t w → Front v.mode (left (octets v)) t (left (octets w))
took_front k = record { text = k.text; spelled = k.spelled; whole = left_moved k.goes.moved }

-- One value is next at most.
pub one_took : {v w x : ValuesLeft} {t u : Tree} → Took v t w → Took v u x → (t ≡ u) × (w ≡ x)
one_took {v} {w} {x} {t} {u} k l =
    let o = one_tree t u (took_front k) (took_front l) in
    let whole : k.text ++ left (octets w) ≡ l.text ++ left (octets w) = sym (left_moved k.goes.moved) ∙ left_moved l.goes.moved ∙ ap (λ (z : List ℕ). l.text ++ z) (sym o.1) in
    let text : k.text ≡ l.text = append_cancel_right k.text l.text (left (octets w)) whole in
    (o.0, same_goes (subst (λ (a : List ℕ). Goes v a w) text k.goes) l.goes)

-- Reading nothing changes nothing.
pub goes_none : {v : ValuesLeft} → v.failed ≡ false → Goes v [] v
goes_none sound = record { moved = moved_none; mode = refl; end = refl; before = sound; behind = sound }

-- Two readings, one after the other, are one.
pub goes_both : {v w x : ValuesLeft} {a b : List ℕ} → Goes v a w → Goes w b x → Goes v (a ++ b) x
goes_both g h = record { moved = moved_both g.moved h.moved; mode = h.mode ∙ g.mode; end = h.end ∙ g.end; before = g.before; behind = h.behind }

pub took_none : {v : ValuesLeft} → v.failed ≡ false → TookAll v none v
took_none sound = record { text = []; spelled = refl; goes = goes_none sound }

pub took_more : {v w x : ValuesLeft} {t : Tree} {ts : Trees} → Took v t w → TookAll w ts x → TookAll v (more t ts) x
took_more {v} {w} {x} {t} {ts} k a =
    record { text = k.text ++ a.text; spelled = (k.text, a.text, k.spelled, subst (λ (m : Mode). SpellsAll m ts a.text) k.goes.mode a.spelled, refl); goes = goes_both k.goes a.goes }

-- No values read: all is as it was.
pub none_stays : {v w : ValuesLeft} → TookAll v none w → v ≡ w
none_stays {v} {w} a = same_goes (goes_none a.goes.before) (subst (λ (s : List ℕ). Goes v s w) a.spelled a.goes)

-- Values read are a first one, and the others after it.
pub record Splits (v : ValuesLeft) (t : Tree) (ts : Trees) (x : ValuesLeft) : Type 0 where
  pub behind : ValuesLeft
  pub first : Took v t behind
  pub others : TookAll behind ts x

pub more_splits : {v x : ValuesLeft} {t : Tree} {ts : Trees} → TookAll v (more t ts) x → Splits v t ts x
more_splits {v} {x} {t} {ts} k =
    let a = k.spelled.0 in
    let b = k.spelled.1 in
    let g = k.goes in
    let mid : ValuesLeft = record { mode = v.mode; end = v.end; failed = false; rest = b ++ x.rest; limit = more_limit (length b) x.limit } in
    let limits : v.limit ≡ more_limit (length a) mid.limit = g.moved.limit ∙ ap (λ (s : List ℕ). more_limit (length s) x.limit) k.spelled.4 ∙ ap (λ (n : ℕ). more_limit n x.limit) (length-append a b) ∙ more_more (length a) (length b) x.limit in
    let rests : v.rest ≡ a ++ mid.rest = g.moved.rest ∙ ap (λ (s : List ℕ). s ++ x.rest) k.spelled.4 ∙ append_assoc a b x.rest in
    let front : Goes v a mid = record { moved = record { rest = rests; limit = limits }; mode = refl; end = refl; before = g.before; behind = refl } in
    let back : Goes mid b x = record { moved = record { rest = refl; limit = refl }; mode = g.mode; end = g.end; before = refl; behind = g.behind } in
    record { behind = mid; first = record { text = a; spelled = k.spelled.2; goes = front }; others = record { text = b; spelled = k.spelled.3; goes = back } }

-- Where a content ends no value is next.
pub ended_front : {v : ValuesLeft} → Ended v → Ends (left (octets v))
ended_front {v} e = at v.end v.limit e.ends
  where
    at : (end : Ending) (l : Option ℕ) → EndsHere end (record { rest = v.rest; limit = l }) → Ends (limited l v.rest)
    at Definite l h = subst (λ (z : Option ℕ). Ends (limited z v.rest)) (sym h) tt
    at Indefinite l h = subst Ends (sym (left_moved h.1)) refl
    at Unbounded l h = subst Ends (sym h) tt

pub ended_none : {v w : ValuesLeft} {t : Tree} → Ended v → Took v t w → ⊥
ended_none {t = t} e k = tree_goes_on t (took_front k) (ended_front e)

-- A value has octets.
some_octets : (m : Mode) (t : Tree) (text : List ℕ) → Spells m t text → 0 < length text
some_octets m t [] h = absurd (tree_goes_on t (whole_front h) tt)
some_octets m t (a ∷ text) h = omega arith

pub took_shorter : (v w : ValuesLeft) (t : Tree) → Took v t w → length w.rest < length v.rest
took_shorter v w t k = omega (arith, ap length k.goes.moved.rest, length-append k.text w.rest, some_octets v.mode t k.text k.spelled)

pub whole_none : {v : ValuesLeft} → Whole v none → Ended v
whole_none w = subst Ended (sym (none_stays w.took)) w.ended

pub ended_whole : {v : ValuesLeft} → Ended v → Whole v none
ended_whole {v} e = record { behind = v; took = took_none e.sound; ended = e }

pub took_whole : {v w : ValuesLeft} {t : Tree} {ts : Trees} → Took v t w → Whole w ts → Whole v (more t ts)
took_whole k w = record { behind = w.behind; took = took_more k w.took; ended = w.ended }

pub whole_first : {v : ValuesLeft} {t : Tree} {ts : Trees} → Whole v (more t ts) → Ahead v t
whole_first w = let s = more_splits w.took in (s.behind, s.first)

pub whole_others : {v w : ValuesLeft} {t u : Tree} {ts : Trees} → Took v t w → Whole v (more u ts) → (t ≡ u) × Whole w ts
whole_others {ts = ts} k w =
    let s = more_splits w.took in
    let o = one_took k s.first in
    (o.0, record { behind = w.behind; took = subst (λ (z : ValuesLeft). TookAll z ts w.behind) (sym o.1) s.others; ended = w.ended })

-- All that is left of a content are these values and no others.
pub one_whole : (ts us : Trees) {v : ValuesLeft} → Whole v ts → Whole v us → ts ≡ us
one_whole none none w x = refl
one_whole none (more u us) w x = let s = more_splits x.took in absurd (ended_none (whole_none w) s.first)
one_whole (more t ts) none w x = let s = more_splits w.took in absurd (ended_none (whole_none x) s.first)
one_whole (more t ts) (more u us) w x =
    let s = more_splits w.took in
    let rest : Whole s.behind ts = record { behind = w.behind; took = s.others; ended = w.ended } in
    let o = whole_others s.first x in
    let first : t ≡ u = o.0 in
    let others : ts ≡ us = one_whole ts us rest o.1 in
    cc

-- One value read is a list of one.
pub took_one : {v w : ValuesLeft} {t : Tree} → Took v t w → TookAll v (more t none) w
took_one k = took_more k (took_none k.goes.behind)

-- Where no next value was read, there is none.
pub next_none : {A B : Type 0} (E : Type 0) (f : A → B) (P : Tree → B → Type 0) (old new : ValuesLeft) {o : Option A} → o ≡ None → ReadsNextAs {A = A} {B = B} {E = E} f P old (Ok o) new → Ended old
next_none {A} {B} E f P old new {o} e h = (subst (λ (z : Option A). ReadsNextAs {A = A} {B = B} {E = E} f P old (Ok z) new) e h).1
