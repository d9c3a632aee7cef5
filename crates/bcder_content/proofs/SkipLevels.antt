-- The laws of what is to come, whatever K comes after it.
use Rattle.std.proofs.Common.{◌≡◌, ℕ, ◌+◌, Bool, true, false, List, [], ◌∷◌, ◌++◌, refl, sym, ap, ◌∙◌, subst, append_assoc}
use Rattle.bcder_content.specs.bcder_tree.declared.mode.Mode.{Mode}
use Rattle.bcder_content.specs.bcder_tree.Tags.{TagValue}
use Rattle.bcder_content.specs.bcder_tree.Tree.{Tree, Trees, primitive, constructed, none, more, SpellsAll}
use Rattle.bcder_content.specs.bcder_tree.Front.{Front}
use Rattle.bcder_source.specs.Views.{View, left, Moved}
use Rattle.bcder_source.proofs.Moves.{moved_none, moved_both}
use Rattle.bcder_content.proofs.of_bcder_tree.Trees.{tree_goes_on}
use Rattle.bcder_content.specs.declared.ending.Span.{Span}
use Rattle.bcder_content.specs.Nodes.{Node, nodes, nodes_all}
use Rattle.bcder_content.specs.Openings.{Opens, Closes}
use Rattle.bcder_content.specs.SkipLevels.{Level, Value, Behind}
use Rattle.bcder_content.proofs.Opening.{opens_tag, constructed_closed, primitive_closed, constructed_content}
use Rattle.bcder_content.proofs.SkipMoves.{moved_same, moved_split, moved_front, same_value, closes_ends, closes_one}

module _ (m : Mode) (d : ℕ) (f : Span) (K : View → List Node → Type 0) (v : View) where
  -- Without a value in the rest of the content it ends here.
  at_once : {ns : List Node} → (l : Level m d f K v ns) → l.text ≡ [] → Closes f v l.end
  at_once l e = subst (λ (w : View). Closes f w l.end) (moved_same (subst (λ (a : List ℕ). Moved v a l.middle) e l.moved) moved_none) l.closes

  -- With some the first of them is in front.
  first_of : {ns : List Node} → (l : Level m d f K v ns) → (t : Tree) (ts : Trees) → l.trees ≡ more t ts → SpellsAll m (more t ts) l.text → Value m d (Level m d f K) v ns
  first_of l t ts e h =
      let x = moved_split h.0 h.1 (subst (λ (a : List ℕ). Moved v a l.middle) h.4 l.moved) in
      record {
        tree = t;
        text = h.0;
        behind = x.middle;
        later = nodes_all d ts ++ l.later;
        spelled = h.2;
        moved = x.first;
        visits = l.visits ∙ ap (λ (us : Trees). nodes_all d us ++ l.later) e ∙ append_assoc (nodes d t) (nodes_all d ts) l.later;
        after = record { trees = ts; text = h.1; middle = l.middle; end = l.end; later = l.later; spelled = h.3; moved = x.second; closes = l.closes; visits = refl; after = l.after };
      }

  -- Where the content ends nothing of it is to come.
  pub close_to : (w : View) → Closes f v w → (ns : List Node) → Level m d f K v ns → K w ns
  close_to w c ns l = at l.trees refl l.spelled
    where
      at : (ts : Trees) → l.trees ≡ ts → SpellsAll m ts l.text → K w ns
      at none e h =
          let nodes_are : ns ≡ l.later = l.visits ∙ ap (λ (us : Trees). nodes_all d us ++ l.later) e in
          subst (λ (z : List Node). K w z) (sym nodes_are) (subst (λ (z : View). K z l.later) (closes_one f v l.end w (at_once l h) c) l.after)
      at (more t ts) e h =
          let x = first_of l t ts e h in
          absurd (tree_goes_on x.tree (moved_front m x.tree x.spelled x.moved) (closes_ends f v w c))

  pub close_from : (w : View) → Closes f v w → (ns : List Node) → K w ns → Level m d f K v ns
  close_from w c ns k = record { trees = none; text = []; middle = v; end = w; later = ns; spelled = refl; moved = moved_none; closes = c; visits = refl; after = k }

  -- Where it goes on a value is next.
  pub value_to : ((w : View) → Closes f v w → ⊥) → (ns : List Node) → Level m d f K v ns → Value m d (Level m d f K) v ns
  value_to goes ns l = at l.trees refl l.spelled
    where
      at : (ts : Trees) → l.trees ≡ ts → SpellsAll m ts l.text → Value m d (Level m d f K) v ns
      at none e h = absurd (goes l.end (at_once l h))
      at (more t ts) e h = first_of l t ts e h

  pub value_from : (ns : List Node) → Value m d (Level m d f K) v ns → Level m d f K v ns
  value_from ns x =
      let l = x.after in
      record {
        trees = more x.tree l.trees;
        text = x.text ++ l.text;
        middle = l.middle;
        end = l.end;
        later = l.later;
        spelled = (x.text, l.text, x.spelled, l.spelled, refl);
        moved = moved_both x.moved l.moved;
        closes = l.closes;
        visits = x.visits ∙ ap (λ (z : List Node). nodes d x.tree ++ z) l.visits ∙ sym (append_assoc (nodes d x.tree) (nodes_all d l.trees) l.later);
        after = l.after;
      }

abbrev pub node_of : TagValue → Bool → ℕ → Node
node_of t k d = record { tag = t; form = k; depth = d }

pub not_true : {A : Type 0} → false ≡ true → A
not_true e = absurd cc

module _ (m : Mode) (d : ℕ) (K : View → List Node → Type 0) (v : View) (t : TagValue) (f : Span) (inner : View) where
  -- Into a constructed value.
  module _ (o : Opens m v true t f inner) where
    pub into_from : (ns : List Node) → Level m (d + 1) f K inner ns → Value m d K v (node_of t true d ∷ ns)
    into_from ns l =
        let c = constructed_closed o l.spelled l.moved l.closes in
        record { tree = constructed t l.trees; text = c.text; behind = l.end; later = l.later; spelled = c.spelled; moved = c.moved; visits = ap (λ (z : List Node). node_of t true d ∷ z) l.visits; after = l.after }

    pub into_to : (ns : List Node) → Value m d K v ns → Behind (node_of t true d ∷ []) (Level m (d + 1) f K inner) ns
    into_to ns x = at x.tree refl
      where
        at : (u : Tree) → x.tree ≡ u → Behind (node_of t true d ∷ []) (Level m (d + 1) f K inner) ns
        at (primitive s w) e = not_true ((opens_tag (primitive s w) o (subst (λ (u : Tree). Front m (left v) u (left x.behind)) e (moved_front m x.tree x.spelled x.moved))).1)
        at (constructed s ts) e =
            let here = subst (λ (u : Tree). Front m (left v) u (left x.behind)) e (moved_front m x.tree x.spelled x.moved) in
            let tag : s ≡ t = (opens_tag (constructed s ts) o here).0 in
            let c = constructed_content o (subst (λ (r : TagValue). Front m (left v) (constructed r ts) (left x.behind)) tag here) in
            let whole = constructed_closed o c.spelled c.moved c.closes in
            let same = same_value m (constructed t ts) x.tree whole.spelled whole.moved x.spelled x.moved in
            let others = nodes_all (d + 1) ts ++ x.later in
            let seen : ns ≡ node_of t true d ∷ others = x.visits ∙ ap (λ (u : Tree). nodes d u ++ x.later) (sym same.tree) in
            record {
              others = others;
              whole = seen;
              is = record { trees = ts; text = c.text; middle = c.end; end = c.new; later = x.later; spelled = c.spelled; moved = c.moved; closes = c.closes; visits = refl; after = subst (λ (z : View). K z x.later) (sym same.end) x.after };
            }

  -- Past a primitive value.
  module _ (o : Opens m v false t f inner) (w : List ℕ) (middle new : View) (mv : Moved inner w middle) (cl : Closes f middle new) where
    pub past_from : (ns : List Node) → K new ns → Value m d K v (node_of t false d ∷ ns)
    past_from ns k =
        let c = primitive_closed o mv cl in
        record { tree = primitive t w; text = c.text; behind = new; later = ns; spelled = c.spelled; moved = c.moved; visits = refl; after = k }

    pub past_to : (ns : List Node) → Value m d K v ns → Behind (node_of t false d ∷ []) (K new) ns
    past_to ns x =
        let c = primitive_closed o mv cl in
        let same = same_value m (primitive t w) x.tree c.spelled c.moved x.spelled x.moved in
        record {
          others = x.later;
          whole = x.visits ∙ ap (λ (u : Tree). nodes d u ++ x.later) (sym same.tree);
          is = subst (λ (z : View). K z x.later) (sym same.end) x.after;
        }
