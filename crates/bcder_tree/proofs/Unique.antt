-- Octets have one identifier at most in front, one length and one header, in each mode and across the modes.
use Rattle.std.proofs.Common.{◌≡◌, ℕ, ◌+◌, ◌*◌, ◌<◌, ◌≤◌, Bool, true, false, List, [], ◌∷◌, ◌++◌, length, take, drop, refl, sym, ap, ◌∙◌, append_assoc, arith}
use Rattle.std.proofs.Math.Seq.{take-append_seam, drop-append_seam}
use Rattle.bcder_tree.specs.declared.mode.Mode.{Mode}
use Rattle.bcder_tree.specs.Tags.{TagValue}
use Rattle.bcder_tree.specs.Octets.{form_bit, IsHigh, IsIdentifier, IsLength}
use Rattle.bcder_tree.specs.Tree.{IsHeader}

-- Two fronts of one list are one, and so is what comes after them.
pub record Same (i j x y : List ℕ) : Type 0 where
  pub front : i ≡ j
  pub rest : x ≡ y

-- What two identifiers in front of one list have in common.
pub record SameIdentifier (i j x y : List ℕ) (k q : Bool) (t u : TagValue) : Type 0 where
  pub front : i ≡ j
  pub rest : x ≡ y
  pub form : k ≡ q
  pub tag : t ≡ u

-- What two headers in front of one list have in common.
pub record SameHeader (i j x y : List ℕ) (k q : Bool) (t u : TagValue) (n l : ℕ) : Type 0 where
  pub front : i ≡ j
  pub rest : x ≡ y
  pub form : k ≡ q
  pub tag : t ≡ u
  pub size : n ≡ l

-- Fronts of one length are one.
pub by_length : (a b x y : List ℕ) → length a ≡ length b → a ++ x ≡ b ++ y → Same a b x y
by_length a b x y n e =
    let f : a ≡ b = sym (take-append_seam a x) ∙ ap (λ (s : List ℕ). take (length a) s) e ∙ ap (λ (k : ℕ). take k (b ++ y)) n ∙ take-append_seam b y in
    let r : x ≡ y = sym (drop-append_seam a x) ∙ ap (λ (s : List ℕ). drop (length a) s) e ∙ ap (λ (k : ℕ). drop k (b ++ y)) n ∙ drop-append_seam b y in
    record { front = f; rest = r }

-- Equal lists whose first parts have two parts each.
pub glue : {a b : List ℕ} (h v x g w y : List ℕ) → a ≡ h ++ v → b ≡ g ++ w → a ++ x ≡ b ++ y → h ++ (v ++ x) ≡ g ++ (w ++ y)
glue h v x g w y p q e = sym (append_assoc h v x) ∙ ap (λ (s : List ℕ). s ++ x) (sym p) ∙ e ∙ ap (λ (s : List ℕ). s ++ y) q ∙ append_assoc g w y

-- Tags of one class and number are one.
pub tag_is : {t u : TagValue} → t.class ≡ u.class → t.number ≡ u.number → t ≡ u
tag_is {t} {u} c n =
    let one : t ≡ record { class = u.class; number = t.number } = ap (λ (x : ℕ). let r : TagValue = record { class = x; number = t.number } in r) c in
    let two : record { class = u.class; number = t.number } ≡ u = ap (λ (x : ℕ). let r : TagValue = record { class = u.class; number = x } in r) n in
    one ∙ two

-- The parts of a first octet: class, form and the lowest five bits.
pub first_octet : (c d n l : ℕ) (k q : Bool) → n < 32 → l < 32 → c * 64 + form_bit k + n ≡ d * 64 + form_bit q + l → (c ≡ d) × (k ≡ q) × (n ≡ l)
first_octet c d n l true true hn hl e = (omega arith, refl, omega arith)
first_octet c d n l false false hn hl e = (omega arith, refl, omega arith)
first_octet c d n l k q hn hl e = absurd (omega arith)

-- A number after the first octet is at least 31.
pub high_above : (i : List ℕ) (n : ℕ) → IsHigh i n → 31 ≤ n
high_above [] n h = absurd h
high_above (b ∷ []) n h = omega arith
high_above (b ∷ c ∷ []) n h = omega arith
high_above (b ∷ c ∷ d ∷ []) n h = omega arith
high_above (b ∷ c ∷ d ∷ e ∷ _) n h = absurd h

one_high : (i j x y : List ℕ) (n k : ℕ) → IsHigh i n → IsHigh j k → i ++ x ≡ j ++ y → Same i j x y × (n ≡ k)
one_high (b ∷ []) (b' ∷ []) x y n k h g e = (record { front = cc; rest = cc }, cc)
one_high (b ∷ c ∷ []) (b' ∷ c' ∷ []) x y n k h g e = (record { front = cc; rest = cc }, grind arith)
one_high (b ∷ c ∷ d ∷ []) (b' ∷ c' ∷ d' ∷ []) x y n k h g e = (record { front = cc; rest = cc }, grind arith)
one_high i j x y n k h g e = absurd (grind arith)

-- Octets have one identifier at most in front.
pub one_identifier : (i j x y : List ℕ) {k q : Bool} {t u : TagValue} → IsIdentifier i k t → IsIdentifier j q u → i ++ x ≡ j ++ y → SameIdentifier i j x y k q t u
one_identifier (a ∷ []) (b ∷ []) x y {k} {q} {t} {u} h g e =
    let f = first_octet t.class u.class t.number u.number k q (omega arith) (omega arith) (grind arith) in
    record { front = cc; rest = cc; form = f.1; tag = tag_is f.0 f.2 }
one_identifier (a ∷ []) (b ∷ c ∷ j) x y {k} {q} {t} {u} h g e =
    let f = first_octet t.class u.class t.number 31 k q (omega arith) (omega arith) (grind arith) in
    absurd (omega (arith, f))
one_identifier (a ∷ b ∷ i) (c ∷ []) x y {k} {q} {t} {u} h g e =
    let f = first_octet t.class u.class 31 u.number k q (omega arith) (omega arith) (grind arith) in
    absurd (omega (arith, f))
one_identifier (a ∷ b ∷ i) (c ∷ d ∷ j) x y {k} {q} {t} {u} h g e =
    let f = first_octet t.class u.class 31 31 k q (omega arith) (omega arith) (grind arith) in
    let r : (b ∷ i) ++ x ≡ (d ∷ j) ++ y = cc in
    let o = one_high (b ∷ i) (d ∷ j) x y t.number u.number h.1 g.1 r in
    let fr : b ∷ i ≡ d ∷ j = o.0.front in
    record { front = cc; rest = o.0.rest; form = f.1; tag = tag_is f.0 o.1 }
one_identifier i j x y {k} {q} {t} {u} h g e = absurd (grind arith)

-- Octets have one definite length at most in front, whatever the modes.
pub one_length : (m p : Mode) (i j x y : List ℕ) (n k : ℕ) → IsLength m i n → IsLength p j k → i ++ x ≡ j ++ y → Same i j x y × (n ≡ k)
one_length m p (a ∷ []) (a' ∷ []) x y n k h g e = (record { front = cc; rest = cc }, grind arith)
one_length m p (a ∷ b ∷ []) (a' ∷ b' ∷ []) x y n k h g e = (record { front = cc; rest = cc }, grind arith)
one_length m p (a ∷ b ∷ c ∷ []) (a' ∷ b' ∷ c' ∷ []) x y n k h g e = (record { front = cc; rest = cc }, grind arith)
one_length m p (a ∷ b ∷ c ∷ d ∷ []) (a' ∷ b' ∷ c' ∷ d' ∷ []) x y n k h g e = (record { front = cc; rest = cc }, grind arith)
one_length m p (a ∷ b ∷ c ∷ d ∷ f ∷ []) (a' ∷ b' ∷ c' ∷ d' ∷ f' ∷ []) x y n k h g e = (record { front = cc; rest = cc }, grind arith)
one_length m p i j x y n k h g e = absurd (grind arith)

-- A header in front is its identifier in front of its length.
pub parts_of : {m : Mode} {h : List ℕ} {k : Bool} {t : TagValue} {n : ℕ} (x : List ℕ) (hd : IsHeader m h k t n) → h ++ x ≡ hd.identifier ++ (hd.size ++ x)
parts_of x hd = ap (λ (s : List ℕ). s ++ x) hd.whole ∙ append_assoc hd.identifier hd.size x

-- Octets have one header at most in front, whatever the modes.
pub one_header : {m p : Mode} {i j x y : List ℕ} {k q : Bool} {t u : TagValue} {n l : ℕ} → IsHeader m i k t n → IsHeader p j q u l → i ++ x ≡ j ++ y → SameHeader i j x y k q t u n l
one_header {m} {p} {i} {j} {x} {y} {n = n} {l} h g e =
    let a = one_identifier h.identifier g.identifier (h.size ++ x) (g.size ++ y) h.identifier_is g.identifier_is (glue _ _ _ _ _ _ h.whole g.whole e) in
    let b = one_length m p h.size g.size x y n l h.size_is g.size_is a.rest in
    let identifiers : h.identifier ≡ g.identifier = a.front in
    let sizes : h.size ≡ g.size = b.0.front in
    let left : i ≡ h.identifier ++ h.size = h.whole in
    let right : j ≡ g.identifier ++ g.size = g.whole in
    record { front = cc; rest = b.0.rest; form = a.form; tag = a.tag; size = b.1 }
