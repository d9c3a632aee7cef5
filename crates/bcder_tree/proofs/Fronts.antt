-- Trees, headers and rows of trees in front of octets, for the readers above this crate.
use Rattle.std.proofs.Common.{◌≡◌, inl, inr, ℕ, ◌+◌, ◌*◌, ◌^◌, ◌<◌, ◌≤◌, Bool, true, false, List, [], ◌∷◌, ◌++◌, length, refl, sym, ap, ◌∙◌, subst, append-nil, length-append, arith}
use Rattle.bcder_tree.specs.declared.mode.Mode.{Mode}
use Rattle.bcder_tree.specs.declared.mode.Mode.TheVariants.{Der}
use Rattle.bcder_tree.specs.Tags.{TagValue, universal}
use Rattle.bcder_tree.specs.Octets.{form_bit, IsIdentifier, IsLength}
use Rattle.bcder_tree.specs.Tree.{Tree, Trees, primitive, constructed, none, more, IsHeader, Spells, SpellsAll}
use Rattle.bcder_tree.specs.Front.{Front, Fields, Splits}
use Rattle.bcder_tree.proofs.Unique.{high_above}
use Rattle.bcder_tree.proofs.Parts.{not_mixed, constructed_parts}
use Rattle.bcder_tree.proofs.Trees.{one_tree}
pub use Rattle.bcder_tree.proofs.Unique.{tag_is}
pub use Rattle.bcder_tree.proofs.Parts.{SameParts, one_split, primitive_front, split_primitive, sequence_front}

-- What spells a tree is in front of nothing.
pub whole_front : {m : Mode} {t : Tree} {octets : List ℕ} → Spells m t octets → Front m octets t []
whole_front {octets = octets} h = record { text = octets; spelled = h; whole = sym (append-nil octets) }

-- What is in front of nothing spells the tree.
pub front_whole : {m : Mode} {t : Tree} {octets : List ℕ} → Front m octets t [] → Spells m t octets
front_whole {m} {t} f = subst (Spells m t) (sym (f.whole ∙ append-nil f.text)) f.spelled

-- A constructed tree in front of octets, by its header and its content.
pub record SplitsTrees (m : Mode) (s : List ℕ) (t : TagValue) (ts : Trees) (rest : List ℕ) : Type 0 where
  pub content : List ℕ
  pub splits : Splits m s true t content rest
  pub trees : Fields m content ts

-- In DER a constructed value has a definite length.
pub split_constructed : {s rest : List ℕ} {t : TagValue} {ts : Trees} → Front Der s (constructed t ts) rest → SplitsTrees Der s t ts rest
split_constructed f =
    let c = constructed_parts f in
    elim c.splits [
      | inl d ↦ record { content = c.content; splits = d.1; trees = c.trees }
      | inr d ↦ absurd d.0
    ]

-- In DER each tree in front is a header with its content.
pub front_splits : {s rest : List ℕ} (u : Tree) → Front Der s u rest → (k : Bool) × (t : TagValue) × (content : List ℕ) × Splits Der s k t content rest
front_splits (primitive t v) f = (false, t, v, split_primitive f)
front_splits (constructed t ts) f = (true, t, (split_constructed f).content, (split_constructed f).splits)

-- Where a header of the primitive form is in front, only that primitive value is.
pub front_primitive : {m p : Mode} {s v b rest : List ℕ} {t : TagValue} {u : Tree} → Splits m s false t v b → Front p s u rest → (u ≡ primitive t v) × (b ≡ rest)
front_primitive {v = v} {t = t} {u} x f = let o = one_tree (primitive t v) u (primitive_front x) f in (sym o.0, o.1)

-- A header of the constructed form has the tag of the value in front.
pub front_tag : {m p : Mode} {s c b rest : List ℕ} {t u : TagValue} {ts : Trees} → Splits m s true t c b → Front p s (constructed u ts) rest → u ≡ t
front_tag x f =
    elim (constructed_parts f).splits [
      | inl d ↦ (one_split d.1 x).tag
      | inr d ↦ absurd (not_mixed x d.1)
    ]

-- The content after a header spells the trees of the value in front.
pub content_trees : {m p : Mode} {s c b rest : List ℕ} {t u : TagValue} {ts : Trees} → Splits m s true t c b → Front p s (constructed u ts) rest → Fields p c ts × (b ≡ rest)
content_trees {p = p} {ts = ts} x f =
    let parts = constructed_parts f in
    elim parts.splits [
      | inl d ↦ let o = one_split x d.1 in (subst (λ (z : List ℕ). Fields p z ts) (sym o.content) parts.trees, o.behind)
      | inr d ↦ absurd (not_mixed x d.1)
    ]

-- Where a header of the constructed form is in front, only a constructed value is, of what the content spells.
pub front_constructed : {m p : Mode} {s c b rest : List ℕ} {t : TagValue} (u : Tree) → Splits m s true t c b → Front p s u rest → (ts : Trees) × (u ≡ constructed t ts) × Fields p c ts × (b ≡ rest)
front_constructed (primitive v w) x f = let form : false ≡ true = (one_split (split_primitive f) x).form in absurd cc
front_constructed {t = t} (constructed v ts) x f =
    let parts = content_trees x f in
    let tag : v ≡ t = front_tag x f in
    (ts, ap (λ (w : TagValue). constructed w ts) tag, parts.0, parts.1)

-- After the first tree come the others.
pub others_behind : {m p : Mode} {s rest : List ℕ} {t u : Tree} {ts : Trees} → Front m s t rest → Fields p s (more u ts) → Fields p rest ts × (t ≡ u)
others_behind {p = p} {s} {t = t} {u} {ts} f sp =
    let first : Front p s u sp.spelled.1 = record { text = sp.spelled.0; spelled = sp.spelled.2; whole = sp.spelled.4 } in
    let o = one_tree t u f first in
    (record { spelled = subst (SpellsAll p ts) (sym o.1) sp.spelled.3 }, o.0)

-- The first of some trees is in front, and the others come after it.
pub first_front : {m : Mode} {s : List ℕ} {u : Tree} {ts : Trees} → Fields m s (more u ts) → (rest : List ℕ) × Front m s u rest × Fields m rest ts
first_front sp = (sp.spelled.1, record { text = sp.spelled.0; spelled = sp.spelled.2; whole = sp.spelled.4 }, record { spelled = sp.spelled.3 })

-- Nothing spells no trees.
pub fields_none : {m : Mode} → Fields m [] none
fields_none = record { spelled = refl }

-- A tree in front of others makes one more.
pub fields_more : {m : Mode} {s rest : List ℕ} {u : Tree} {ts : Trees} → Front m s u rest → Fields m rest ts → Fields m s (more u ts)
fields_more {rest = rest} f sp = record { spelled = (f.text, rest, f.spelled, sp.spelled, f.whole) }

-- Octets that spell no trees are none.
pub fields_end : {m : Mode} {s : List ℕ} → Fields m s none → s ≡ []
fields_end f = f.spelled

-- What is refused of the content of a constructed value is refused of the whole.
pub whole_lacks : {m p : Mode} {s c b rest : List ℕ} {t v : TagValue} {ts : Trees} {u : Tree} → Splits m s true t c b → (Fields p c ts → ⊥) → u ≡ constructed v ts → Front p s u rest → ⊥
whole_lacks {p = p} {s} {rest = rest} x lacks e f = lacks (content_trees x (subst (λ (w : Tree). Front p s w rest) e f)).0

-- A number below 31 is in the first octet, and the identifier has no other.
pub one_octet_identifier : (i : List ℕ) (k : Bool) (t : TagValue) → t.number < 31 → IsIdentifier i k t → i ≡ (t.class * 64 + form_bit k + t.number) ∷ []
one_octet_identifier [] k t low h = absurd h
one_octet_identifier (a ∷ []) k t low h = ap (λ (z : ℕ). z ∷ []) h.0
one_octet_identifier (a ∷ b ∷ i) k t low h = absurd (omega (arith, high_above (b ∷ i) t.number h.1))

-- So a header is that octet and the length.
pub one_octet_header : {m : Mode} {h : List ℕ} {k : Bool} {t : TagValue} {n : ℕ} → t.number < 31 → (hd : IsHeader m h k t n) → h ≡ (t.class * 64 + form_bit k + t.number) ∷ hd.size
one_octet_header {k = k} {t} low hd = hd.whole ∙ ap (λ (z : List ℕ). z ++ hd.size) (one_octet_identifier hd.identifier k t low hd.identifier_is)

-- A length has at most five octets, and is below 4 GiB.
pub length_bound : (m : Mode) (l : List ℕ) (n : ℕ) → IsLength m l n → (length l ≤ 5) × (n < 2 ^ 32)
length_bound m [] n h = absurd h
length_bound m (a ∷ []) n h = omega arith
length_bound m (a ∷ b ∷ []) n h = omega arith
length_bound m (a ∷ b ∷ c ∷ []) n h = omega arith
length_bound m (a ∷ b ∷ c ∷ d ∷ []) n h = omega arith
length_bound m (a ∷ b ∷ c ∷ d ∷ e ∷ []) n h = omega arith
length_bound m (a ∷ b ∷ c ∷ d ∷ e ∷ f ∷ _) n h = absurd h

-- A header has an identifier and a length, of one octet each at least.
pub header_long : {m : Mode} {h : List ℕ} {k : Bool} {t : TagValue} {n : ℕ} → IsHeader m h k t n → 2 ≤ length h
header_long {m} {h} {k} {t} {n} hd = rw hd.whole (both hd.identifier hd.size hd.identifier_is hd.size_is)
  where
    both : (i l : List ℕ) → IsIdentifier i k t → IsLength m l n → 2 ≤ length (i ++ l)
    both [] l p q = absurd p
    both (a ∷ i) [] p q = absurd q
    both (a ∷ i) (b ∷ l) p q = omega (arith, length-append i (b ∷ l))

-- So a header is not empty.
pub header_positive : {m : Mode} {h : List ℕ} {k : Bool} {t : TagValue} {n : ℕ} → IsHeader m h k t n → 0 < length h
header_positive hd = omega (arith, header_long hd)

-- Octets that split are as many as the header, of at most six octets, its content, below 4 GiB, and what comes after.
pub split_bound : {m : Mode} {s : List ℕ} {k : Bool} {t : TagValue} {c b : List ℕ} → t.number < 31 → Splits m s k t c b → length s ≤ 2 ^ 32 + 5 + length b
split_bound {m} {s} {k} {t} {c} {b} low x =
    let hd = x.header_is in
    let octets : length x.header ≡ length hd.size + 1 = ap length (one_octet_header low hd) ∙ omega arith in
    omega (arith, octets, length_bound m hd.size (length c) hd.size_is, ap length x.whole, length-append x.header (c ++ b), length-append c b)

-- In DER a SEQUENCE has at most 4 GiB and 5 octets.
pub sequence_bound : (ts : Trees) (octets : List ℕ) → Spells Der (constructed (universal 16) ts) octets → length octets ≤ 2 ^ 32 + 5
sequence_bound ts octets h =
    let front : Front Der octets (constructed (universal 16) ts) [] = whole_front h in
    omega (arith, split_bound (omega arith) (split_constructed front).splits)
