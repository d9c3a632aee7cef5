-- Where values begin and end.
use Rattle.std.proofs.Common.{◌≡◌, inl, inr, ℕ, ◌+◌, ◌-◌, ◌≤◌, Bool, true, false, List, [], ◌∷◌, ◌++◌, length, take, drop, Option, Some, None, refl, sym, ap, ◌∙◌, subst, append_assoc, length-append, arith}
use Rattle.std.proofs.lemmas.List.{take-append-drop, length-take, length-take-le}
use Rattle.bcder_content.specs.bcder_tree.declared.mode.Mode.{Mode}
use Rattle.bcder_content.specs.bcder_tree.declared.length.Length.{Length}
use Rattle.bcder_content.specs.bcder_tree.declared.length.Length.TheVariants.{Definite as LengthIs, Indefinite as NoLength}
use Rattle.bcder_content.specs.bcder_tree.Tags.{TagValue, IsTag}
use Rattle.bcder_content.specs.bcder_tree.Octets.{IsIdentifier}
use Rattle.bcder_content.specs.bcder_tree.Lengths.{SpellsLength}
use Rattle.bcder_content.specs.bcder_tree.Tree.{Tree, Trees, primitive, constructed, IsHeader, Spells, SpellsAll, HasDefinite, HasIndefinite, definite, indefinite}
use Rattle.bcder_content.specs.bcder_tree.Front.{Front, Splits}
use Rattle.bcder_source.specs.Views.{View, left, limited, more_limit, Moved}
use Rattle.bcder_content.proofs.of_bcder_tree.Unique.{by_length, one_identifier, one_length}
use Rattle.bcder_content.proofs.of_bcder_tree.Parts.{not_indefinite, split_primitive, constructed_parts}
use Rattle.bcder_content.proofs.of_bcder_tree.Parts as parts
use Rattle.bcder_source.proofs.Moves.{limited_sum, more_more, moved_both, left_moved}
use Rattle.bcder_content.specs.declared.ending.Span.{Span}
use Rattle.bcder_content.specs.declared.ending.Span.TheVariants.{Until, ToEnd}
use Rattle.bcder_content.specs.Openings.{EndsHere, tag_of, form_of, IsHead, Heads, Opens, Closes, ending_of, Starts, NoHead, NoValue}

-- A header in front, and what comes after it.
pub record HeadIn (m : Mode) (k : Bool) (t : TagValue) (l : Length) (s text behind : List ℕ) : Type 0 where
  pub head : IsHead m text k t l
  pub whole : s ≡ text ++ behind

pub record SameHead (k q : Bool) (t u : TagValue) (l n : Length) (a b x y : List ℕ) : Type 0 where
  pub form : k ≡ q
  pub tag : t ≡ u
  pub size : l ≡ n
  pub text : a ≡ b
  pub behind : x ≡ y

record SameSize (l n : Length) (a b x y : List ℕ) : Type 0 where
  size : l ≡ n
  text : a ≡ b
  behind : x ≡ y

one_size : (m : Mode) (l n : Length) (a b x y : List ℕ) → SpellsLength m l a → SpellsLength m n b → a ++ x ≡ b ++ y → SameSize l n a b x y
one_size m (LengthIs l) (LengthIs n) a b x y p q e =
    let o = one_length m m a b x y l n p q e in
    record { size = ap (λ (z : ℕ). LengthIs z) o.1; text = o.0.front; behind = o.0.rest }
one_size m (LengthIs l) NoLength a b x y p q e = absurd (not_indefinite m a x y l p (e ∙ ap (λ (z : List ℕ). z ++ y) q))
one_size m NoLength (LengthIs n) a b x y p q e = absurd (not_indefinite m b y x n q (sym e ∙ ap (λ (z : List ℕ). z ++ x) p))
one_size m NoLength NoLength a b x y p q e =
    let f : 128 ∷ x ≡ 128 ∷ y = sym (ap (λ (z : List ℕ). z ++ x) p) ∙ e ∙ ap (λ (z : List ℕ). z ++ y) q in
    record { size = refl; text = p ∙ sym q; behind = cc }

-- Octets have one header in front.
pub one_head : {m : Mode} {k q : Bool} {t u : TagValue} {l n : Length} {s a b x y : List ℕ} → HeadIn m k t l s a x → HeadIn m q u n s b y → SameHead k q t u l n a b x y
one_head {m} {k} {q} {t} {u} {l} {n} {s} {a} {b} {x} {y} f g =
    let h = f.head in
    let i = g.head in
    let left_is : s ≡ h.identifier ++ (h.size ++ x) = f.whole ∙ ap (λ (z : List ℕ). z ++ x) h.whole ∙ append_assoc h.identifier h.size x in
    let right_is : s ≡ i.identifier ++ (i.size ++ y) = g.whole ∙ ap (λ (z : List ℕ). z ++ y) i.whole ∙ append_assoc i.identifier i.size y in
    let o = one_identifier h.identifier i.identifier (h.size ++ x) (i.size ++ y) h.identifier_is i.identifier_is (sym left_is ∙ right_is) in
    let z = one_size m l n h.size i.size x y h.size_is i.size_is o.rest in
    record { form = o.form; tag = o.tag; size = z.size; text = h.whole ∙ ap (λ (w : List ℕ). w ++ h.size) o.front ∙ ap (λ (w : List ℕ). i.identifier ++ w) z.text ∙ sym i.whole; behind = z.behind }

-- A header of definite length.
pub head_of : {m : Mode} {k : Bool} {t : TagValue} {n : ℕ} {h : List ℕ} → IsHeader m h k t n → IsHead m h k t (LengthIs n)
head_of h = record { identifier = h.identifier; size = h.size; whole = h.whole; tag = h.tag; identifier_is = h.identifier_is; size_is = h.size_is }

append_same : (a x y : List ℕ) → a ++ x ≡ a ++ y → x ≡ y
append_same [] x y e = e
append_same (z ∷ a) x y e = append_same a x y cc

-- What a limited source says where it begins with octets: it moves past them.
pub front_moves : (v : View) (text rest : List ℕ) → left v ≡ text ++ rest → (w : View) × Moved v text w × (left w ≡ rest)
front_moves v text rest e = at v.limit refl
  where
    at : (l : Option ℕ) → v.limit ≡ l → (w : View) × Moved v text w × (left w ≡ rest)
    at None n =
        let f : v.rest ≡ text ++ rest = sym (ap (λ (l : Option ℕ). limited l v.rest) n) ∙ e in
        (record { rest = rest; limit = None }, record { rest = f; limit = n }, refl)
    at (Some k) n =
        let f : take k v.rest ≡ text ++ rest = sym (ap (λ (l : Option ℕ). limited l v.rest) n) ∙ e in
        let whole : v.rest ≡ text ++ (rest ++ drop k v.rest) = sym (take-append-drop k v.rest) ∙ ap (λ (z : List ℕ). z ++ drop k v.rest) f ∙ append_assoc text rest (drop k v.rest) in
        let room : length text ≤ k = omega (arith, ap length f, length-append text rest, length-take k v.rest) in
        let split : k ≡ length text + (k - length text) = omega arith in
        let moved : Moved v text (record { rest = rest ++ drop k v.rest; limit = Some (k - length text) }) = record { rest = whole; limit = n ∙ ap (λ (z : ℕ). Some z) split } in
        (record { rest = rest ++ drop k v.rest; limit = Some (k - length text) }, moved, append_same text (take (k - length text) (rest ++ drop k v.rest)) rest (sym (left_moved moved) ∙ e))

-- A counted content: its count, the limits, and the header in front of it.
record Counted (m : Mode) (old : View) (k : Bool) (t : TagValue) (outer : Option ℕ) (inner : View) (text : List ℕ) : Type 0 where
  may : k ≡ true → HasDefinite m
  n : ℕ
  inner_is : inner.limit ≡ Some n
  old_is : old.limit ≡ more_limit (length text + n) outer
  header : IsHeader m text k t n
  head : HeadIn m k t (LengthIs n) (left old) text (limited (more_limit n outer) inner.rest)

counted : {m : Mode} {old inner : View} {k : Bool} {t : TagValue} {outer : Option ℕ} → (o : Opens m old k t (Until outer) inner) → Counted m old k t outer inner o.text
counted {m} {old} {inner} {k} {t} {outer} o =
    let n = o.how.1.0 in
    let limit : old.limit ≡ more_limit (length o.text) (more_limit n outer) = o.how.1.3 ∙ more_more (length o.text) n outer in
    let whole : left old ≡ o.text ++ limited (more_limit n outer) inner.rest =
    ap (λ (l : Option ℕ). limited l old.rest) limit ∙ ap (λ (s : List ℕ). limited (more_limit (length o.text) (more_limit n outer)) s) o.rest ∙ limited_sum o.text inner.rest (more_limit n outer) in
    record { may = o.how.0; n = n; inner_is = o.how.1.2; old_is = o.how.1.3; header = o.how.1.1; head = record { head = head_of o.how.1.1; whole = whole } }

-- A content of indefinite length: its identifier, and the header in front of it.
record Open (m : Mode) (old : View) (k : Bool) (t : TagValue) (inner : View) (text : List ℕ) : Type 0 where
  form : k ≡ true
  may : HasIndefinite m
  identifier : List ℕ
  tag : IsTag t
  is : IsIdentifier identifier true t
  text_is : text ≡ identifier ++ (128 ∷ [])
  moved : Moved old text inner
  head : HeadIn m true t NoLength (left old) text (left inner)

open_content : {m : Mode} {old inner : View} {k : Bool} {t : TagValue} → (o : Opens m old k t ToEnd inner) → Open m old k t inner o.text
open_content {m} {old} {inner} {k} {t} o =
    let moved : Moved old o.text inner = record { rest = o.rest; limit = o.how.3 } in
    let i = o.how.2 in
    record {
      form = o.how.0;
      may = o.how.1;
      identifier = i.0;
      tag = i.1;
      is = i.2;
      text_is = i.3;
      moved = moved;
      head = record { head = record { identifier = i.0; size = 128 ∷ []; whole = i.3; tag = i.1; identifier_is = i.2; size_is = refl }; whole = left_moved moved };
    }

-- Heads of values in front.
pub split_head : {m : Mode} {s : List ℕ} {k : Bool} {t : TagValue} {c b : List ℕ} → (x : Splits m s k t c b) → HeadIn m k t (LengthIs (length c)) s x.header (c ++ b)
split_head x = record { head = head_of x.header_is; whole = x.whole }

pub open_head : {m : Mode} {s : List ℕ} {t : TagValue} {c b : List ℕ} → (x : parts.Opens s t c b) → HeadIn m true t NoLength s (x.identifier ++ (128 ∷ [])) (c ++ (0 ∷ 0 ∷ b))
open_head {c = c} {b} x = record {
  head = record { identifier = x.identifier; size = 128 ∷ []; whole = refl; tag = x.tag; identifier_is = x.identifier_is; size_is = refl };
  whole = x.whole ∙ sym (append_assoc x.identifier (128 ∷ []) (c ++ (0 ∷ 0 ∷ b)));
}

-- The header of a tree in front.
pub record TreeHead (m : Mode) (s : List ℕ) (u : Tree) : Type 0 where
  pub size : Length
  pub text : List ℕ
  pub behind : List ℕ
  pub head : HeadIn m (form_of u) (tag_of u) size s text behind

pub tree_head : {m : Mode} {s rest : List ℕ} (u : Tree) → Front m s u rest → TreeHead m s u
tree_head {m} {s} {rest} (primitive t v) f =
    let x = split_primitive f in
    record { size = LengthIs (length v); text = x.header; behind = v ++ rest; head = split_head x }
tree_head {m} {s} {rest} (constructed t ts) f =
    let c = constructed_parts f in
    elim c.splits [
      | inl d ↦ record { size = LengthIs (length c.content); text = d.1.header; behind = c.content ++ rest; head = split_head d.1 }
      | inr d ↦ record { size = NoLength; text = d.1.identifier ++ (128 ∷ []); behind = c.content ++ (0 ∷ 0 ∷ rest); head = open_head d.1 }
    ]

-- A value that was opened has the tag and the form of any tree in front.
pub opens_tag : {m : Mode} {old inner : View} {k : Bool} {t : TagValue} {span : Span} {rest : List ℕ} (u : Tree) → Opens m old k t span inner → Front m (left old) u rest → (tag_of u ≡ t) × (form_of u ≡ k)
opens_tag {m} {old} {inner} {k} {t} {span = Until outer} u o f = let e = one_head (tree_head u f).head (counted o).head in (e.tag, e.form)
opens_tag {m} {old} {inner} {k} {t} {span = ToEnd} u o f = let c = open_content o in let e = one_head (tree_head u f).head c.head in (e.tag, e.form ∙ sym c.form)

-- A value was read, from its header to what comes after it.
pub record Closed (m : Mode) (old : View) (t : Tree) (new : View) : Type 0 where
  pub text : List ℕ
  pub spelled : Spells m t text
  pub moved : Moved old text new

-- The count of a content that was read to its end.
count_is : {inner end : View} {text : List ℕ} (n : ℕ) → inner.limit ≡ Some n → Moved inner text end → end.limit ≡ Some 0 → n ≡ length text
count_is {inner} {end} {text} n is m e =
    let c : Some n ≡ Some (length text + 0) = sym is ∙ m.limit ∙ ap (more_limit (length text)) e in
    let d : n ≡ length text + 0 = cc in
    omega arith

counted_moved : {old inner end new : View} {text : List ℕ} {outer : Option ℕ} (h : List ℕ) (n : ℕ) → old.rest ≡ h ++ inner.rest → old.limit ≡ more_limit (length h + n) outer → Moved inner text end → n ≡ length text → new ≡ record { rest = end.rest; limit = outer } → Moved old (h ++ text) new
counted_moved {old} {inner} {end} {new} {text} {outer} h n rest limit m count e =
    let r : new.rest ≡ end.rest = ap (λ (v : View). v.rest) e in
    let l : new.limit ≡ outer = ap (λ (v : View). v.limit) e in
    record {
      rest = rest ∙ ap (λ (s : List ℕ). h ++ s) (m.rest ∙ ap (λ (s : List ℕ). text ++ s) (sym r)) ∙ sym (append_assoc h text new.rest);
      limit = limit ∙ ap (λ (z : ℕ). more_limit (length h + z) outer) count ∙ ap (λ (z : ℕ). more_limit z outer) (sym (length-append h text)) ∙ ap (more_limit (length (h ++ text))) (sym l);
    }

pub constructed_closed : {m : Mode} {old inner end new : View} {t : TagValue} {span : Span} {ts : Trees} {text : List ℕ} → Opens m old true t span inner → SpellsAll m ts text → Moved inner text end → Closes span end new → Closed m old (constructed t ts) new
constructed_closed {m} {old} {inner} {end} {new} {t} {span = Until outer} {ts} {text} o sp mv cl =
    let c = counted o in
    let count : c.n ≡ length text = count_is c.n c.inner_is mv cl.0 in
    record {
      text = o.text ++ text;
      spelled = (text, definite (c.may refl) o.text (subst (λ (z : ℕ). IsHeader m o.text true t z) count c.header) refl, sp);
      moved = counted_moved o.text c.n o.rest c.old_is mv count cl.1;
    }
constructed_closed {m} {old} {inner} {end} {new} {t} {span = ToEnd} {ts} {text} o sp mv cl =
    let c = open_content o in
    let shape : o.text ++ (text ++ (0 ∷ 0 ∷ [])) ≡ c.identifier ++ (128 ∷ text ++ (0 ∷ 0 ∷ [])) = ap (λ (z : List ℕ). z ++ (text ++ (0 ∷ 0 ∷ []))) c.text_is ∙ append_assoc c.identifier (128 ∷ []) (text ++ (0 ∷ 0 ∷ [])) in
    record {
      text = c.identifier ++ (128 ∷ text ++ (0 ∷ 0 ∷ []));
      spelled = (text, indefinite c.may c.identifier c.tag c.is refl, sp);
      moved = subst (λ (z : List ℕ). Moved old z new) shape (moved_both c.moved (moved_both mv cl));
    }

pub primitive_closed : {m : Mode} {old inner end new : View} {t : TagValue} {span : Span} {v : List ℕ} → Opens m old false t span inner → Moved inner v end → Closes span end new → Closed m old (primitive t v) new
primitive_closed {m} {old} {inner} {end} {new} {t} {span = Until outer} {v} o mv cl =
    let c = counted o in
    let count : c.n ≡ length v = count_is c.n c.inner_is mv cl.0 in
    record {
      text = o.text ++ v;
      spelled = record { header = o.text; header_is = subst (λ (z : ℕ). IsHeader m o.text false t z) count c.header; whole = refl };
      moved = counted_moved o.text c.n o.rest c.old_is mv count cl.1;
    }
primitive_closed {t = t} {span = ToEnd} o mv cl = let e : false ≡ true = o.how.0 in absurd cc

-- The content of a value that was opened, where a tree is in front.
pub record ContentOf (m : Mode) (span : Span) (inner : View) (ts : Trees) (rest : List ℕ) : Type 0 where
  pub text : List ℕ
  pub end : View
  pub new : View
  pub spelled : SpellsAll m ts text
  pub moved : Moved inner text end
  pub closes : Closes span end new
  pub behind : left new ≡ rest

pub record OctetsAt (span : Span) (inner : View) (v rest : List ℕ) : Type 0 where
  pub end : View
  pub new : View
  pub moved : Moved inner v end
  pub closes : Closes span end new
  pub behind : left new ≡ rest

pub cancel_more : (n : ℕ) (a b : Option ℕ) → more_limit n a ≡ more_limit n b → a ≡ b
cancel_more n None None e = refl
cancel_more n None (Some y) e = absurd cc
cancel_more n (Some x) None e = absurd cc
cancel_more n (Some x) (Some y) e = let f : n + x ≡ n + y = cc in let g : x ≡ y = omega arith in ap (λ (z : ℕ). Some z) g

counted_at : {inner : View} {outer : Option ℕ} (n : ℕ) (v rest : List ℕ) → inner.limit ≡ Some n → n ≡ length v → limited (more_limit n outer) inner.rest ≡ v ++ rest → OctetsAt (Until outer) inner v rest
counted_at {inner} {outer} n v rest is count e =
    let w = front_moves (record { rest = inner.rest; limit = more_limit n outer }) v rest e in
    let limit : outer ≡ w.0.limit = cancel_more n outer w.0.limit (w.1.limit ∙ ap (λ (z : ℕ). more_limit z w.0.limit) (sym count)) in
    record {
      end = record { rest = w.0.rest; limit = Some 0 };
      new = record { rest = w.0.rest; limit = outer };
      moved = record { rest = w.1.rest; limit = is ∙ ap (λ (z : ℕ). Some z) (let f : n ≡ length v + 0 = omega arith in f) };
      closes = (refl, refl);
      behind = ap (λ (l : Option ℕ). limited l w.0.rest) limit ∙ w.2;
    }

same_count : {n k : ℕ} → LengthIs n ≡ LengthIs k → n ≡ k
same_count e = cc

pub primitive_content : {m : Mode} {old inner : View} {t : TagValue} {span : Span} {v rest : List ℕ} → Opens m old false t span inner → Front m (left old) (primitive t v) rest → OctetsAt span inner v rest
primitive_content {m} {old} {inner} {t} {span = Until outer} {v} {rest} o f =
    let c = counted o in
    let e = one_head c.head (split_head (split_primitive f)) in
    counted_at c.n v rest c.inner_is (same_count e.size) e.behind
primitive_content {span = ToEnd} o f = let e : false ≡ true = o.how.0 in absurd cc

pub constructed_content : {m : Mode} {old inner : View} {t : TagValue} {span : Span} {ts : Trees} {rest : List ℕ} → Opens m old true t span inner → Front m (left old) (constructed t ts) rest → ContentOf m span inner ts rest
constructed_content {m} {old} {inner} {t} {span = Until outer} {ts} {rest} o f =
    let c = counted o in
    let p = constructed_parts f in
    elim p.splits [
      | inl d ↦
          let e = one_head c.head (split_head d.1) in
          let a = counted_at c.n p.content rest c.inner_is (same_count e.size) e.behind in
          record { text = p.content; end = a.end; new = a.new; spelled = p.trees.spelled; moved = a.moved; closes = a.closes; behind = a.behind }
      | inr d ↦ let e = one_head c.head (open_head d.1) in let x : LengthIs c.n ≡ NoLength = e.size in absurd cc
    ]
constructed_content {m} {old} {inner} {t} {span = ToEnd} {ts} {rest} o f =
    let c = open_content o in
    let p = constructed_parts f in
    elim p.splits [
      | inl d ↦ let e = one_head c.head (split_head d.1) in let x : NoLength ≡ LengthIs (length p.content) = e.size in absurd cc
      | inr d ↦
          let e = one_head c.head (open_head d.1) in
          let a = front_moves inner p.content (0 ∷ 0 ∷ rest) e.behind in
          let b = front_moves a.0 (0 ∷ 0 ∷ []) rest a.2 in
          record { text = p.content; end = a.0; new = b.0; spelled = p.trees.spelled; moved = a.1; closes = b.1; behind = b.2 }
    ]

-- Where a value can be left, its content has ended; and the other way round.
pub ends_here : (span : Span) (end new : View) → Closes span end new → EndsHere (ending_of span) end
ends_here (Until outer) end new c = c.0
ends_here ToEnd end new c = (new, c)

pub here_ends : (span : Span) (end : View) → EndsHere (ending_of span) end → (new : View) × Closes span end new
here_ends (Until outer) end e = (record { rest = end.rest; limit = outer }, (e, refl))
here_ends ToEnd end e = e

-- How a tree in front begins: there is room for it, and its mode has such values.
pub record Began (m : Mode) (v : View) (u : Tree) : Type 0 where
  pub size : Length
  pub text : List ℕ
  pub behind : List ℕ
  pub head : HeadIn m (form_of u) (tag_of u) size (left v) text behind
  pub span : Span
  pub starts : Starts m v.limit (form_of u) size (length text) span

room : (v : View) (h c b : List ℕ) → left v ≡ h ++ (c ++ b) → (outer : Option ℕ) × (v.limit ≡ more_limit (length h + length c) outer)
room v h c b e =
    let w = front_moves v (h ++ c) b (e ∙ sym (append_assoc h c b)) in
    (w.0.limit, w.1.limit ∙ ap (λ (z : ℕ). more_limit z w.0.limit) (length-append h c))

pub began : {m : Mode} (v : View) {rest : List ℕ} (u : Tree) → Front m (left v) u rest → Began m v u
began {m} v {rest} (primitive t w) f =
    let x = split_primitive f in
    let r = room v x.header w rest x.whole in
    record { size = LengthIs (length w); text = x.header; behind = w ++ rest; head = split_head x; span = Until r.0; starts = (λ e. absurd (not_true e), r.1) }
  where
    not_true : false ≡ true → ⊥
    not_true e = absurd cc
began {m} v {rest} (constructed t ts) f =
    let p = constructed_parts f in
    elim p.splits [
      | inl d ↦
          let r = room v d.1.header p.content rest d.1.whole in
          record { size = LengthIs (length p.content); text = d.1.header; behind = p.content ++ rest; head = split_head d.1; span = Until r.0; starts = (λ _. d.0, r.1) }
      | inr d ↦ record { size = NoLength; text = d.1.identifier ++ (128 ∷ []); behind = p.content ++ (0 ∷ 0 ∷ rest); head = open_head d.1; span = ToEnd; starts = (refl, d.0) }
    ]

-- Without a header in front there is no value.
pub no_head : {m : Mode} {v : View} → NoHead m (left v) → NoValue m v
no_head {m} {v} n = record { none = λ t rest f. let h = tree_head t f in n.none (form_of t) (tag_of t) h.size h.text h.behind h.head.head h.head.whole }

-- Nor where the header in front can't begin one.
pub no_start : {m : Mode} {v : View} {k : Bool} {t : TagValue} {l : Length} {text behind : List ℕ} → HeadIn m k t l (left v) text behind → ((span : Span) → Starts m v.limit k l (length text) span → ⊥) → NoValue m v
no_start {m} {v} {k} {t} {l} {text} {behind} h none = record { none = at }
  where
    at : (u : Tree) (rest : List ℕ) → Front m (left v) u rest → ⊥
    at u rest f =
        let b = began v u f in
        let e = one_head b.head h in
        none b.span (subst (λ (x : List ℕ). Starts m v.limit k l (length x) b.span) e.text (subst (λ (x : Length). Starts m v.limit k x (length b.text) b.span) e.size (subst (λ (x : Bool). Starts m v.limit x b.size (length b.text) b.span) e.form b.starts)))

abbrev pub inner_limit : Length → Option ℕ → Option ℕ
inner_limit (LengthIs n) l = Some n
inner_limit NoLength l = l

-- Past a header that can begin a value, the value is open.
pub opens_at : {m : Mode} {old mid new : View} {k : Bool} {t : TagValue} {count : ℕ} (l : Length) (span : Span) → Heads m k t l count (left old) → Starts m old.limit k l count span → count ≤ length (left old) → Moved old (take count old.rest) mid → new ≡ record { rest = mid.rest; limit = inner_limit l mid.limit } → Opens m old k t span new
opens_at {m} {old} {mid} {new} {k} {t} {count} l span h st there mv e = at l span h.head st (ap (λ (v : View). v.rest) e) (ap (λ (v : View). v.limit) e)
  where
    room_in : (lim : Option ℕ) (s : List ℕ) → length (limited lim s) ≤ length s
    room_in None s = omega arith
    room_in (Some n) s = omega (arith, length-take n s)

    long : length (take count old.rest) ≡ count
    long = length-take-le count old.rest (omega (arith, room_in old.limit old.rest))

    text_is : take count old.rest ≡ h.text
    text_is = (by_length (take count old.rest) h.text (left mid) h.rest (long ∙ sym h.long) (sym (left_moved mv) ∙ h.whole)).front

    rest_is : (r : List ℕ) → r ≡ mid.rest → old.rest ≡ h.text ++ r
    rest_is r e = mv.rest ∙ ap (λ (z : List ℕ). z ++ mid.rest) text_is ∙ ap (λ (z : List ℕ). h.text ++ z) (sym e)

    at : (l : Length) (span : Span) → IsHead m h.text k t l → Starts m old.limit k l count span → new.rest ≡ mid.rest → new.limit ≡ inner_limit l mid.limit → Opens m old k t span new
    at (LengthIs n) (Until outer) hd st r lim = record {
      text = h.text;
      rest = rest_is new.rest r;
      how = (st.0, (n, record { identifier = hd.identifier; size = hd.size; whole = hd.whole; tag = hd.tag; identifier_is = hd.identifier_is; size_is = hd.size_is }, lim, st.1 ∙ ap (λ (z : ℕ). more_limit (z + n) outer) (sym h.long)));
    }
    at (LengthIs n) ToEnd hd st r lim = absurd st
    at NoLength (Until outer) hd st r lim = absurd st
    at NoLength ToEnd hd st r lim = record {
      text = h.text;
      rest = rest_is new.rest r;
      how = (st.0, st.1, (hd.identifier, hd.tag, subst (λ (q : Bool). IsIdentifier hd.identifier q t) st.0 hd.identifier_is, hd.whole ∙ ap (λ (z : List ℕ). hd.identifier ++ z) hd.size_is), mv.limit ∙ ap (λ (z : List ℕ). more_limit (length z) mid.limit) text_is ∙ ap (more_limit (length h.text)) (sym lim));
    }
