-- Moves over octets, and where two of them end at one place.
use Rattle.std.proofs.Common.{◌≡◌, ℕ, ◌+◌, List, [], ◌++◌, length, Option, refl, sym, ap, ◌∙◌, subst, append_assoc, length-append}
use Rattle.std.proofs.lemmas.List.{append_cancel_left, append_cancel_right}
use Rattle.bcder_content.specs.bcder_tree.declared.mode.Mode.{Mode}
use Rattle.bcder_content.specs.bcder_tree.Tree.{Tree, Spells}
use Rattle.bcder_content.specs.bcder_tree.Front.{Front}
use Rattle.bcder_source.specs.Views.{View, left, limited, more_limit, Moved}
use Rattle.bcder_source.proofs.Moves.{left_moved, more_more}
use Rattle.bcder_content.proofs.of_bcder_tree.Trees.{one_tree}
use Rattle.bcder_content.proofs.of_bcder_tree.Parts.{Ends}
use Rattle.bcder_content.specs.declared.ending.Span.{Span}
use Rattle.bcder_content.specs.declared.ending.Span.TheVariants.{Until, ToEnd}
use Rattle.bcder_content.specs.Openings.{Closes}
use Rattle.bcder_content.proofs.Opening.{cancel_more}

-- Views are the same where rest and limit are.
pub same_view : {v w : View} → v.rest ≡ w.rest → v.limit ≡ w.limit → v ≡ w
same_view {v} {w} r l =
    let a : v ≡ record { rest = w.rest; limit = v.limit } = ap (λ (s : List ℕ). let u : View = record { rest = s; limit = v.limit } in u) r in
    let b : record { rest = w.rest; limit = v.limit } ≡ w = ap (λ (s : Option ℕ). let u : View = record { rest = w.rest; limit = s } in u) l in
    a ∙ b

-- From one view, reading certain octets leads to one view.
pub moved_same : {v x y : View} {a : List ℕ} → Moved v a x → Moved v a y → x ≡ y
moved_same {v} {x} {y} {a} m n = same_view (append_cancel_left a x.rest y.rest (sym m.rest ∙ n.rest)) (cancel_more (length a) x.limit y.limit (sym m.limit ∙ n.limit))

-- A place between two texts.
pub record Between (v : View) (a b : List ℕ) (w : View) : Type 0 where
  pub middle : View
  pub first : Moved v a middle
  pub second : Moved middle b w

pub moved_split : {v w : View} (a b : List ℕ) → Moved v (a ++ b) w → Between v a b w
moved_split {v} {w} a b m = record {
  middle = record { rest = b ++ w.rest; limit = more_limit (length b) w.limit };
  first = record { rest = m.rest ∙ append_assoc a b w.rest; limit = m.limit ∙ ap (λ (n : ℕ). more_limit n w.limit) (length-append a b) ∙ more_more (length a) (length b) w.limit };
  second = record { rest = refl; limit = refl };
}

-- A spelling that is moved over stands in front.
pub moved_front : (m : Mode) {v w : View} (t : Tree) {a : List ℕ} → Spells m t a → Moved v a w → Front m (left v) t (left w)
moved_front n t {a} s m = record { text = a; spelled = s; whole = left_moved m }

-- Two values in front are one, and end at one place.
pub record SameValue (t u : Tree) (x y : View) : Type 0 where
  pub tree : t ≡ u
  pub end : x ≡ y

pub same_value : (m : Mode) {v x y : View} (t u : Tree) {a b : List ℕ} → Spells m t a → Moved v a x → Spells m u b → Moved v b y → SameValue t u x y
same_value m {v} {x} {y} t u {a} {b} s p r q =
    let o = one_tree t u (moved_front m t s p) (moved_front m u r q) in
    let text : a ≡ b = append_cancel_right a b (left y) (ap (λ (z : List ℕ). a ++ z) (sym o.1) ∙ sym (left_moved p) ∙ left_moved q) in
    record { tree = o.0; end = moved_same p (subst (λ (z : List ℕ). Moved v z y) (sym text) q) }

-- Where a value ends no tree begins.
pub closes_ends : (span : Span) (v w : View) → Closes span v w → Ends (left v)
closes_ends (Until outer) v w c = let e : left v ≡ [] = ap (λ (l : Option ℕ). limited l v.rest) c.0 in subst Ends (sym e) tt
closes_ends ToEnd v w c = subst Ends (sym (left_moved c)) refl

-- A value ends at one place.
pub closes_one : (span : Span) (v x y : View) → Closes span v x → Closes span v y → x ≡ y
closes_one (Until outer) v x y c d = c.1 ∙ sym d.1
closes_one ToEnd v x y c d = moved_same c d
