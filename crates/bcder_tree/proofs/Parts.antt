-- Octets as a header with its content, or as an identifier with a content of indefinite length, and what comes after.
use Rattle.std.proofs.Common.{◌≡◌, ◌⊎◌, inl, inr, ℕ, Bool, true, false, List, [], ◌∷◌, ◌++◌, length, refl, sym, ap, ◌∙◌, subst, append_assoc, arith}
use Rattle.bcder_tree.specs.declared.mode.Mode.{Mode}
use Rattle.bcder_tree.specs.Tags.{TagValue, IsTag}
use Rattle.bcder_tree.specs.Octets.{IsIdentifier, IsLength}
use Rattle.bcder_tree.specs.Tree.{Trees, primitive, constructed, HasDefinite, HasIndefinite, definite, indefinite}
use Rattle.bcder_tree.specs.Front.{Front, Fields, Splits}
use Rattle.bcder_tree.proofs.Unique.{by_length, one_identifier, one_header, parts_of}

-- What two ways to split one list have in common.
pub record SameParts (k q : Bool) (t u : TagValue) (c d b e : List ℕ) : Type 0 where
  pub form : k ≡ q
  pub tag : t ≡ u
  pub content : c ≡ d
  pub behind : b ≡ e

-- Octets split in one way, whatever the modes.
pub one_split : {m p : Mode} {s : List ℕ} {k q : Bool} {t u : TagValue} {c d b e : List ℕ} → Splits m s k t c b → Splits p s q u d e → SameParts k q t u c d b e
one_split {c = c} {d} {b} {e} x y =
    let o = one_header x.header_is y.header_is (sym x.whole ∙ y.whole) in
    let l = by_length c d b e o.size o.rest in
    record { form = o.form; tag = o.tag; content = l.front; behind = l.rest }

-- A constructed value of indefinite length in front, with this content, and what comes after it.
pub record Opens (s : List ℕ) (t : TagValue) (content behind : List ℕ) : Type 0 where
  pub identifier : List ℕ
  pub tag : IsTag t
  pub identifier_is : IsIdentifier identifier true t
  pub whole : s ≡ identifier ++ (128 ∷ (content ++ (0 ∷ 0 ∷ behind)))

-- No definite length begins as an indefinite one.
pub not_indefinite : (m : Mode) (l x y : List ℕ) (n : ℕ) → IsLength m l n → l ++ x ≡ 128 ∷ y → ⊥
not_indefinite m [] x y n h e = h
not_indefinite m (a ∷ []) x y n h e = grind arith
not_indefinite m (a ∷ b ∷ []) x y n h e = grind arith
not_indefinite m (a ∷ b ∷ c ∷ []) x y n h e = grind arith
not_indefinite m (a ∷ b ∷ c ∷ d ∷ []) x y n h e = grind arith
not_indefinite m (a ∷ b ∷ c ∷ d ∷ f ∷ []) x y n h e = grind arith
not_indefinite m (a ∷ b ∷ c ∷ d ∷ f ∷ g ∷ _) x y n h e = h

-- A length in front is definite or indefinite.
pub not_mixed : {m : Mode} {s : List ℕ} {k : Bool} {t u : TagValue} {c d b e : List ℕ} → Splits m s k t c b → Opens s u d e → ⊥
not_mixed {m} {c = c} {d} {b} {e} x y =
    let h = x.header_is in
    let o = one_identifier h.identifier y.identifier (h.size ++ (c ++ b)) (128 ∷ (d ++ (0 ∷ 0 ∷ e))) h.identifier_is y.identifier_is (sym (parts_of (c ++ b) h) ∙ sym x.whole ∙ y.whole) in
    not_indefinite m h.size (c ++ b) (d ++ (0 ∷ 0 ∷ e)) (length c) h.size_is o.rest

-- Two ways to open one list have the tag and all that comes after `80` in common.
pub one_open : {s : List ℕ} {t u : TagValue} {c d b e : List ℕ} → Opens s t c b → Opens s u d e → (t ≡ u) × (c ++ (0 ∷ 0 ∷ b) ≡ d ++ (0 ∷ 0 ∷ e))
one_open {c = c} {d} {b} {e} x y =
    let o = one_identifier x.identifier y.identifier (128 ∷ (c ++ (0 ∷ 0 ∷ b))) (128 ∷ (d ++ (0 ∷ 0 ∷ e))) x.identifier_is y.identifier_is (sym x.whole ∙ y.whole) in
    let rest : 128 ∷ (c ++ (0 ∷ 0 ∷ b)) ≡ 128 ∷ (d ++ (0 ∷ 0 ∷ e)) = o.rest in
    (o.tag, cc)

-- What no value begins with: nothing, or 0.
abbrev pub Ends : List ℕ → Type 0
Ends [] = Unit {0}
Ends (z ∷ _) = z ≡ 0

-- Identifier octets of a tag that values have are some, and do not begin with 0.
pub identifier_goes_on : (i x : List ℕ) (k : Bool) (t : TagValue) → IsTag t → IsIdentifier i k t → Ends (i ++ x) → ⊥
identifier_goes_on [] x k t p h e = h
identifier_goes_on (a ∷ []) x true t p h e = omega arith
identifier_goes_on (a ∷ []) x false t p h e = omega arith
identifier_goes_on (a ∷ b ∷ i) x k t p h e = omega arith

-- Octets that split are some, and do not begin with 0.
pub split_goes_on : {m : Mode} {s : List ℕ} {k : Bool} {t : TagValue} {c b : List ℕ} → Splits m s k t c b → Ends s → ⊥
split_goes_on {k = k} {t} {c} {b} x e =
    let h = x.header_is in
    identifier_goes_on h.identifier (h.size ++ (c ++ b)) k t h.tag h.identifier_is (subst Ends (x.whole ∙ parts_of (c ++ b) h) e)

-- Nor do octets that open a value of indefinite length.
pub open_goes_on : {s : List ℕ} {t : TagValue} {c b : List ℕ} → Opens s t c b → Ends s → ⊥
open_goes_on {t = t} {c} {b} x e = identifier_goes_on x.identifier (128 ∷ (c ++ (0 ∷ 0 ∷ b))) true t x.tag x.identifier_is (subst Ends x.whole e)

-- A header of the primitive form, with its content after it, is a primitive value.
pub primitive_front : {m : Mode} {s : List ℕ} {t : TagValue} {v behind : List ℕ} → Splits m s false t v behind → Front m s (primitive t v) behind
primitive_front {v = v} {behind} x = record { text = x.header ++ v; spelled = record { header = x.header; header_is = x.header_is; whole = refl }; whole = x.whole ∙ sym (append_assoc x.header v behind) }

-- And a primitive value is one.
pub split_primitive : {m : Mode} {s : List ℕ} {t : TagValue} {v rest : List ℕ} → Front m s (primitive t v) rest → Splits m s false t v rest
split_primitive {v = v} {rest} f = record { header = f.spelled.header; header_is = f.spelled.header_is; whole = f.whole ∙ ap (λ (z : List ℕ). z ++ rest) f.spelled.whole ∙ append_assoc f.spelled.header v rest }

-- A header of the constructed form, with the spellings of trees after it, is a constructed value.
pub sequence_front : {m : Mode} {s : List ℕ} {t : TagValue} {c b : List ℕ} {ts : Trees} → Splits m s true t c b → HasDefinite m → Fields m c ts → Front m s (constructed t ts) b
sequence_front {t = t} {c} {b} x p sp = record { text = x.header ++ c; spelled = (c, definite p x.header x.header_is refl, sp.spelled); whole = x.whole ∙ sym (append_assoc x.header c b) }

-- A constructed value in front, of definite or of indefinite length, with what its content spells.
pub record ConstructedParts (m : Mode) (s : List ℕ) (t : TagValue) (ts : Trees) (rest : List ℕ) : Type 0 where
  pub content : List ℕ
  pub splits : (HasDefinite m × Splits m s true t content rest) ⊎ (HasIndefinite m × Opens s t content rest)
  pub trees : Fields m content ts

-- The parts of a constructed value in front.
pub constructed_parts : {m : Mode} {s : List ℕ} {t : TagValue} {ts : Trees} {rest : List ℕ} → Front m s (constructed t ts) rest → ConstructedParts m s t ts rest
constructed_parts {m} {s} {t} {ts} {rest} f =
    let c = f.spelled.0 in
    let whole : (text : List ℕ) → f.text ≡ text → s ≡ text ++ rest = λ text e. f.whole ∙ ap (λ (z : List ℕ). z ++ rest) e in
    record {
      content = c;
      splits = elim f.spelled.1 [
        | definite p h i e ↦ inl (p, record { header = h; header_is = i; whole = whole (h ++ c) e ∙ append_assoc h c rest })
        | indefinite p i g k e ↦ inr (p, record { identifier = i; tag = g; identifier_is = k; whole = whole (i ++ (128 ∷ c ++ (0 ∷ 0 ∷ []))) e ∙ append_assoc i (128 ∷ c ++ (0 ∷ 0 ∷ [])) rest ∙ ap (λ (z : List ℕ). i ++ (128 ∷ z)) (append_assoc c (0 ∷ 0 ∷ []) rest) })
      ];
      trees = record { spelled = f.spelled.2 };
    }
