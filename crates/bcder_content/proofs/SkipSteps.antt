-- Steps of skipping.
use Rattle.std.proofs.Common.{◌≡◌, ℕ, ◌+◌, ◌-◌, ◌<◌, ◌≤◌, Bool, true, false, List, [], ◌∷◌, ◌++◌, length, length-append, append-nil, append_assoc, get_or, take, Result, Ok, Err, IfErr, IsErrAnd, Option, Some, None, refl, sym, ap, ◌∙◌, subst, arith}
use Rattle.std.specs.Prelude.{slice_get}
use Rattle.std.proofs.lemmas.Option.{slice_get-get_or, same_Some}
use Rattle.std.proofs.lemmas.List.{take_more, take_all, reverse-append, length-reverse}
use Rattle.std.proofs.lemmas.Fn.{FoldsTo-push}
use mathlib.Core.List.{reverse}
use Rattle.bcder_content.specs.bcder_tree.declared.mode.Mode.{Mode}
use Rattle.bcder_source.specs.declared.error.ContentError.{ContentError}
use Rattle.bcder_source.specs.declared.error.DecodeError.{DecodeError}
use Rattle.bcder_source.specs.declared.error.DecodeError.TheVariants.{Content, Source, Memory}
use Rattle.bcder_source.specs.Errors.{OnContent, OnlyContent}
use Rattle.bcder_source.specs.Limits.{IsSpent, IsShort}
use Rattle.bcder_content.specs.bcder_tree.Tags.{TagValue}
use Rattle.bcder_content.specs.bcder_tree.Tree.{Tree, primitive, constructed}
use Rattle.bcder_content.specs.bcder_tree.Front.{Front}
use Rattle.bcder_source.specs.Views.{View, left, more_limit, Moved}
use Rattle.bcder_content.proofs.of_bcder_tree.Fronts.{header_long}
use Rattle.bcder_content.specs.declared.ending.Span.{Span}
use Rattle.bcder_content.specs.declared.ending.Span.TheVariants.{Until, ToEnd}
use Rattle.bcder_content.specs.Nodes.{Node, nodes, nodes_all}
use Rattle.bcder_content.specs.Openings.{tag_of, form_of, Opens, Closes, NoValue}
use Rattle.bcder_content.specs.SkipValues.{Visits, Accepts, OnError, Skips, Stops}
use Rattle.bcder_content.specs.SkipLevels.{Level, Value, Wants, Reaches}
use Rattle.bcder_content.proofs.Opening.{opens_tag, primitive_content, front_moves}
use Rattle.bcder_content.proofs.SkipMoves.{moved_front}
use Rattle.bcder_content.proofs.SkipLevels.{node_of, not_true, into_to, into_from, past_to, past_from, close_to, close_from, value_to, value_from}

-- A refusal that was passed up.
pub passed : {A E : Type 0} (r : Result A (DecodeError E)) (e : DecodeError E) (P : DecodeError E → Type 0) → IsErrAnd r (λ x. x ≡ e) → P e → IfErr r P
passed (Ok x) e P h p = tt
passed (Err x) e P h p = subst P (sym h) p

pub content_weaker : {E : Type 0} (e : DecodeError E) (P Q : Type 0) → (P → Q) → OnContent e P → OnContent e Q
content_weaker (Content error pos) P Q f h = f h
content_weaker (Source error) P Q f h = tt
content_weaker Memory P Q f h = tt

pub only_content : {E : Type 0} (e : DecodeError E) (P Q : Type 0) → (P → Q) → OnlyContent e P → OnContent e Q
only_content (Content error pos) P Q f h = f h
only_content (Source error) P Q f h = tt
only_content Memory P Q f h = tt

pub error_weaker : {E : Type 0} (e : DecodeError E) (P : Type 0) (Q : ContentError → Type 0) → ((error : ContentError) → P → Q error) → OnContent e P → OnError e Q
error_weaker (Content error pos) P Q f h = f error h
error_weaker (Source error) P Q f h = tt
error_weaker Memory P Q f h = tt

pub error_map : {E : Type 0} (e : DecodeError E) (P Q : ContentError → Type 0) → ((error : ContentError) → P error → Q error) → OnError e P → OnError e Q
error_map (Content error pos) P Q f h = f error h
error_map (Source error) P Q f h = tt
error_map Memory P Q f h = tt

pub error_is : {E : Type 0} (e : DecodeError E) (error : ContentError) (pos : ℕ) (Q : ContentError → Type 0) → e ≡ Content error pos → Q error → OnError e Q
error_is {E} e error pos Q i h = subst (λ (x : DecodeError E). OnError x Q) (sym i) h

last_is : {A : Type 0} (s : List A) (x : A) → Some x ≡ slice_get s (length s - 1) → s ≡ take (length s - 1) s ++ (x ∷ [])
last_is [] x e = absurd cc
last_is (a ∷ r) x e =
    let s = a ∷ r in
    let n = length s - 1 in
    let lt : n < length s = omega arith in
    let same : x ≡ get_or s n x = same_Some x (get_or s n x) (e ∙ slice_get-get_or s n x lt) in
    let one : n + 1 ≡ length s = omega arith in
    sym (take_all (length s) s (omega arith)) ∙ ap (λ k. take k s) (sym one) ∙ take_more s n x lt ∙ ap (λ y. take n s ++ (y ∷ [])) (sym same)

-- The last of some items.
pub last_of : {A : Type 0} (s d : List A) (x : A) → d ≡ s → Some x ≡ slice_get d (length d - 1) → s ≡ take (length s - 1) s ++ (x ∷ [])
last_of s d x e h = last_is s x (h ∙ ap (λ z. slice_get z (length z - 1)) e)

-- No step, and two of them.
pub no_step : {P : List Node → Type 0} → Reaches P [] P
no_step = record { to = λ ns p. record { others = ns; whole = refl; is = p }; from = λ ns p. p }

pub both_steps : {P Q R : List Node → Type 0} {a b : List Node} → Reaches P a Q → Reaches Q b R → Reaches P (a ++ b) R
both_steps {P} {Q} {R} {a} {b} f g = record {
  to = λ ns p.
      let x = f.to ns p in
      let y = g.to x.others x.is in
      record { others = y.others; whole = x.whole ∙ ap (λ (z : List Node). a ++ z) y.whole ∙ sym (append_assoc a b y.others); is = y.is };
  from = λ ns r. subst P (sym (append_assoc a b ns)) (f.from (b ++ ns) (g.from ns r));
}

-- One span more is the innermost.
pub pushed : (old new : List Span) (f : Span) → new ≡ old ++ (f ∷ []) → reverse new ≡ f ∷ reverse old
pushed old new f e = ap reverse e ∙ reverse-append old (f ∷ [])

pub count_pushed : (old new : List Span) (f : Span) → new ≡ old ++ (f ∷ []) → length new ≡ length (f ∷ reverse old)
count_pushed old new f e = omega (arith, ap length e, length-append old (f ∷ []), length-reverse old)

module _ (m : Mode) (final : View) (old new : List Span) (f : Span) (e : new ≡ old ++ (f ∷ [])) where
  -- Into a constructed value.
  pub into : (before inner : View) (t : TagValue) (k : Bool) → k ≡ true → Opens m before k t f inner → Reaches (Value m (length old) (Wants m (reverse old) final) before) (node_of t k (length old) ∷ []) (Wants m (reverse new) final inner)
  into before inner t k is o = subst (λ (b : Bool). Opens m before b t f inner → Reaches (Value m (length old) K before) (node_of t b (length old) ∷ []) (Wants m (reverse new) final inner)) (sym is) at o
    where
      K : View → List Node → Type 0
      K = Wants m (reverse old) final

      deep : length old + 1 ≡ length (f ∷ reverse old)
      deep = omega (arith, length-reverse old)

      at : Opens m before true t f inner → Reaches (Value m (length old) K before) (node_of t true (length old) ∷ []) (Wants m (reverse new) final inner)
      at p = record {
        to = λ ns x.
            let b = into_to m (length old) K before t f inner p ns x in
            record { others = b.others; whole = b.whole; is = subst (λ (fs : List Span). Wants m fs final inner b.others) (sym (pushed old new f e)) (subst (λ (n : ℕ). Level m n f K inner b.others) deep b.is) };
        from = λ ns w. into_from m (length old) K before t f inner p ns (subst (λ (n : ℕ). Level m n f K inner ns) (sym deep) (subst (λ (fs : List Span). Wants m fs final inner ns) (pushed old new f e) w));
      }

  -- Out of a value that ends.
  pub out : (v w : View) → Closes f v w → Reaches (Wants m (reverse new) final v) [] (Wants m (reverse old) final w)
  out v w c = record {
    to = λ ns x. record { others = ns; whole = refl; is = close_to m (length (f ∷ reverse old)) f (Wants m (reverse old) final) v w c ns (subst (λ (fs : List Span). Wants m fs final v ns) (pushed old new f e) x) };
    from = λ ns k. subst (λ (fs : List Span). Wants m fs final v ns) (sym (pushed old new f e)) (close_from m (length (f ∷ reverse old)) f (Wants m (reverse old) final) v w c ns k);
  }

  -- Where a value goes on the next one in it comes.
  pub next : (v : View) → ((w : View) → Closes f v w → ⊥) → Reaches (Wants m (reverse new) final v) [] (Value m (length new) (Wants m (reverse new) final) v)
  next v goes = subst (λ (fs : List Span). Reaches (Wants m fs final v) [] (Value m (length new) (Wants m fs final) v)) (sym (pushed old new f e)) (subst (λ (n : ℕ). Reaches (Wants m (f ∷ reverse old) final v) [] (Value m n (Wants m (f ∷ reverse old) final) v)) (sym (count_pushed old new f e)) at)
    where
      at : Reaches (Wants m (f ∷ reverse old) final v) [] (Value m (length (f ∷ reverse old)) (Wants m (f ∷ reverse old) final) v)
      at = record {
        to = λ ns l. record { others = ns; whole = refl; is = value_to m (length (f ∷ reverse old)) f (Wants m (reverse old) final) v goes ns l };
        from = λ ns x. value_from m (length (f ∷ reverse old)) f (Wants m (reverse old) final) v ns x;
      }

-- A count that was read to its end.
spent_count : (l : Option ℕ) (rest : List ℕ) (k n : ℕ) → more_limit k l ≡ Some n → IsSpent l rest → l ≡ Some 0
spent_count None rest k n e s = absurd cc
spent_count (Some j) rest k n e s = ap (λ (z : ℕ). Some z) s

-- Past a primitive value.
pub past : (m : Mode) (final before inner middle new : View) (spans : List Span) (t : TagValue) (k : Bool) (span : Span) (outer : Option ℕ) (text : List ℕ) → k ≡ false → span ≡ Until outer → Opens m before k t span inner → Moved inner text middle → IsSpent middle.limit middle.rest → new ≡ record { rest = middle.rest; limit = outer } → Reaches (Value m (length spans) (Wants m (reverse spans) final) before) (node_of t k (length spans) ∷ []) (Wants m (reverse spans) final new)
past m final before inner middle new spans t k span outer text is span_is o mv spent e =
    subst (λ (b : Bool). Opens m before b t span inner → Reaches (Value m (length spans) K before) (node_of t b (length spans) ∷ []) (K new)) (sym is) at o
  where
    K : View → List Node → Type 0
    K = Wants m (reverse spans) final

    at : Opens m before false t span inner → Reaches (Value m (length spans) K before) (node_of t false (length spans) ∷ []) (K new)
    at p =
        let q : Opens m before false t (Until outer) inner = subst (λ (s : Span). Opens m before false t s inner) span_is p in
        let zero : middle.limit ≡ Some 0 = spent_count middle.limit middle.rest (length text) q.how.1.0 (sym mv.limit ∙ q.how.1.2) spent in
        record {
          to = λ ns x. past_to m (length spans) K before t (Until outer) inner q text middle new mv (zero, e) ns x;
          from = λ ns x. past_from m (length spans) K before t (Until outer) inner q text middle new mv (zero, e) ns x;
        }

-- A primitive value is counted.
pub not_to_end : {A : Type 0} (m : Mode) (before inner : View) (t : TagValue) (k : Bool) (span : Span) → k ≡ false → span ≡ ToEnd → Opens m before k t span inner → A
not_to_end m before inner t k span is span_is o =
    let p : Opens m before k t ToEnd inner = subst (λ (s : Span). Opens m before k t s inner) span_is o in
    not_true (sym is ∙ p.how.0)

-- One whose octets are cut short isn't there.
pub cut : (m : Mode) (before inner : View) (t : TagValue) (k : Bool) (span : Span) → k ≡ false → Opens m before k t span inner → IsShort inner.limit inner.rest → NoValue m before
cut m before inner t k span is o short = subst (λ (b : Bool). Opens m before b t span inner → NoValue m before) (sym is) (at span) o
  where
    few : (n : ℕ) (w rest : List ℕ) (end : View) → inner.limit ≡ Some n → Moved inner w end → end.limit ≡ Some 0 → IsShort inner.limit inner.rest → ⊥
    few n w rest end l mv z s =
        let c : Some n ≡ Some (length w + 0) = sym l ∙ mv.limit ∙ ap (more_limit (length w)) z in
        let d : n ≡ length w + 0 = cc in
        let s' : length inner.rest < n = subst (λ (x : Option ℕ). IsShort x inner.rest) l s in
        omega (arith, ap length mv.rest, length-append w end.rest)

    at : (s : Span) → Opens m before false t s inner → NoValue m before
    at ToEnd p = not_true p.how.0
    at (Until outer) p = record { none = lacks }
      where
        lacks : (u : Tree) (rest : List ℕ) → Front m (left before) u rest → ⊥
        lacks (constructed s ts) rest f = not_true (sym (opens_tag (constructed s ts) p f).1)
        lacks (primitive s w) rest f =
            let tag : s ≡ t = (opens_tag (primitive s w) p f).0 in
            let c = primitive_content p (subst (λ (r : TagValue). Front m (left before) (primitive r w) rest) tag f) in
            few p.how.1.0 w rest c.end p.how.1.2 c.moved c.closes.0 short

-- A header has two octets at least.
pub opens_shorter : (m : Mode) (old inner : View) (k : Bool) (t : TagValue) (span : Span) → Opens m old k t span inner → length inner.rest < length old.rest
opens_shorter m old inner k t (Until outer) o = omega (arith, ap length o.rest, length-append o.text inner.rest, header_long o.how.1.1)
opens_shorter m old inner k t ToEnd o =
    let i = o.how.2 in
    let e : length o.text ≡ length i.0 + 1 = ap length i.3 ∙ length-append i.0 (128 ∷ []) in
    omega (arith, ap length o.rest, length-append o.text inner.rest, e)

-- What the loop keeps: the visitor accepted what was seen, and a value is next.
pub record Under {F : Type 0} (m : Mode) (step : Visits F) (first : F) (start : View) (spans : List Span) (v : View) (now : F) : Type 0 where
  pub seen : List Node
  pub accepted : Accepts step first seen now
  pub reaches : (final : View) → Reaches (Value m 0 (Wants m [] final) start) seen (Value m (length spans) (Wants m (reverse spans) final) v)

-- A value in front is the first one.
front_value : {m : Mode} {v : View} {t : Tree} {rest : List ℕ} → (f : Front m (left v) t rest) → (final : View) × Value m 0 (Wants m [] final) v (nodes 0 t)
front_value {m} {v} {t} {rest} f =
    let w = front_moves v f.text rest f.whole in
    (w.0, record { tree = t; text = f.text; behind = w.0; later = []; spelled = f.spelled; moved = w.1; visits = sym (append-nil (nodes 0 t)); after = (refl, refl) })

-- A value's own node is its first.
first_node : (d : ℕ) (t : Tree) → (others : List Node) × (nodes d t ≡ node_of (tag_of t) (form_of t) d ∷ others)
first_node d (primitive t v) = ([], refl)
first_node d (constructed t ts) = (nodes_all (d + 1) ts, refl)

module _ {F : Type 0} (m : Mode) (step : Visits F) (first : F) (start : View) where
  pub under_first : (spans : List Span) → spans ≡ [] → Under m step first start spans start first
  under_first spans e = record { seen = []; accepted = refl; reaches = λ final. subst (λ (fs : List Span). Reaches (Value m 0 (Wants m [] final) start) [] (Value m (length fs) (Wants m (reverse fs) final) start)) (sym e) no_step }

  -- A value that isn't there is in no tree.
  pub under_none : (spans : List Span) (v : View) (now : F) → Under m step first start spans v now → NoValue m v → (error : ContentError) → Stops m 0 step first start error
  under_none spans v now u none error = record {
    refused = λ t rest f.
        let x = front_value f in
        let y = ((u.reaches x.0).to (nodes 0 t) x.1).is in
        absurd (none.none y.tree (left y.behind) (moved_front m y.tree y.spelled y.moved));
  }

  -- One that the visitor refuses is in each tree.
  pub under_refused : (spans : List Span) (v inner : View) (now after : F) (t : TagValue) (k : Bool) (span : Span) (error : ContentError) → Under m step first start spans v now → Opens m v k t span inner → step now t k (length spans) (Err error) after → Stops m 0 step first start error
  under_refused spans v inner now after t k span error u o s = record {
    refused = λ tree rest f.
        let x = front_value f in
        let b = (u.reaches x.0).to (nodes 0 tree) x.1 in
        let y = b.is in
        let n = first_node (length spans) y.tree in
        let e = opens_tag y.tree o (moved_front m y.tree y.spelled y.moved) in
        let node : node_of (tag_of y.tree) (form_of y.tree) (length spans) ≡ node_of t k (length spans) = ap (λ (z : TagValue). node_of z (form_of y.tree) (length spans)) e.0 ∙ ap (λ (z : Bool). node_of t z (length spans)) e.1 in
        let others : b.others ≡ node_of t k (length spans) ∷ (n.0 ++ y.later) = y.visits ∙ ap (λ (z : List Node). z ++ y.later) n.1 ∙ ap (λ (z : Node). z ∷ (n.0 ++ y.later)) node in
        record {
          done = u.seen;
          node = node_of t k (length spans);
          others = n.0 ++ y.later;
          before = now;
          after = after;
          whole = b.whole ∙ ap (λ (z : List Node). u.seen ++ z) others;
          accepted = u.accepted;
          refused = s;
        };
  }

  -- A value that it accepts is one more.
  module _ (spans deeper back : List Span) (v inner w : View) (now after : F) (t : TagValue) (k : Bool) (u : Under m step first start spans v now) (s : step now t k (length spans) (Ok tt) after) (entered : (final : View) → Reaches (Value m (length spans) (Wants m (reverse spans) final) v) (node_of t k (length spans) ∷ []) (Wants m (reverse deeper) final inner)) (left_on : (final : View) → Reaches (Wants m (reverse deeper) final inner) [] (Wants m (reverse back) final w)) where
    accepted : Accepts step first (u.seen ++ (node_of t k (length spans) ∷ [])) after
    accepted = FoldsTo-push (λ (a : F) (n : Node) (b : F). step a n.tag n.form n.depth (Ok tt) b) first u.seen now (node_of t k (length spans)) after u.accepted s

    here : (final : View) → Reaches (Value m 0 (Wants m [] final) start) (u.seen ++ (node_of t k (length spans) ∷ [])) (Wants m (reverse back) final w)
    here final = both_steps (u.reaches final) (both_steps (entered final) (left_on final))

    pub under_next : ((final : View) → Reaches (Wants m (reverse back) final w) [] (Value m (length back) (Wants m (reverse back) final) w)) → Under m step first start back w after
    under_next goes_on = record { seen = u.seen ++ (node_of t k (length spans) ∷ []); accepted = accepted; reaches = λ final. both_steps (u.reaches final) (both_steps (both_steps (entered final) (left_on final)) (goes_on final)) }

    pub under_done : back ≡ [] → Skips m step first start w
    under_done e =
        let seen = u.seen ++ (node_of t k (length spans) ∷ []) in
        let r = subst (λ (fs : List Span). Reaches (Value m 0 (Wants m [] w) start) seen (Wants m (reverse fs) w w)) e (here w) in
        let x = r.from [] (refl, refl) in
        let n : seen ≡ nodes 0 x.tree = sym (append-nil seen) ∙ x.visits ∙ ap (λ (z : List Node). nodes 0 x.tree ++ z) x.after.1 ∙ append-nil (nodes 0 x.tree) in
        record { tree = x.tree; text = x.text; spelled = x.spelled; moved = subst (λ (z : View). Moved start x.text z) x.after.0 x.moved; last = after; accepted = subst (λ (z : List Node). Accepts step first z after) n accepted }

-- Leaving a value brings back no octets.
pub closes_shorter : (f : Span) (v w : View) → Closes f v w → length w.rest ≤ length v.rest
closes_shorter (Until outer) v w c = let e : w.rest ≡ v.rest = ap (λ (x : View). x.rest) c.1 in omega (arith, ap length e)
closes_shorter ToEnd v w c = omega (arith, ap length c.rest)
