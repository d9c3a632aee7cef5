-- In CER and in DER a tree has one spelling at most.
use Rattle.std.proofs.Common.{◌≡◌, ◌≢◌, ℕ, ◌≤◌, Bool, true, List, [], ◌∷◌, ◌++◌, length, refl, sym, ◌∙◌, subst, arith}
use Rattle.bcder_tree.specs.declared.mode.Mode.{Mode}
use Rattle.bcder_tree.specs.declared.mode.Mode.TheVariants.{Ber, Cer, Der}
use Rattle.bcder_tree.specs.Tags.{TagValue}
use Rattle.bcder_tree.specs.Octets.{IsHigh, IsIdentifier, Shortest, IsLength}
use Rattle.bcder_tree.specs.Tree.{Tree, Trees, primitive, constructed, none, more, HasDefinite, HasIndefinite, IsHeader, IsConstructed, definite, indefinite, Spells, SpellsAll}
use Rattle.bcder_tree.proofs.Unique.{high_above}

shortest : (m : Mode) → m ≢ Ber → (low n : ℕ) → Shortest m low n → low ≤ n
shortest Ber r low n h = absurd (r refl)
shortest Cer r low n h = h
shortest Der r low n h = h

one_form : {A : Type 0} (m : Mode) → m ≢ Ber → HasDefinite m → HasIndefinite m → A
one_form Ber r d i = absurd (r refl)
one_form Cer r d i = absurd d
one_form Der r d i = absurd i

equal_lists : {a b : ℕ} {v w : List ℕ} → a ≡ b → v ≡ w → a ∷ v ≡ b ∷ w
equal_lists e f = cc

spelled_number : (i j : List ℕ) (n : ℕ) → IsHigh i n → IsHigh j n → i ≡ j
spelled_number (a ∷ []) (a' ∷ []) n h g = equal_lists (omega arith) refl
spelled_number (a ∷ b ∷ []) (a' ∷ b' ∷ []) n h g = equal_lists (omega arith) (equal_lists (omega arith) refl)
spelled_number (a ∷ b ∷ c ∷ []) (a' ∷ b' ∷ c' ∷ []) n h g = equal_lists (omega arith) (equal_lists (omega arith) (equal_lists (omega arith) refl))
spelled_number i j n h g = absurd (grind arith)

-- A tag has one identifier, in every mode.
pub spelled_identifier : (i j : List ℕ) (k : Bool) (t : TagValue) → IsIdentifier i k t → IsIdentifier j k t → i ≡ j
spelled_identifier (a ∷ []) (b ∷ []) k t h g = equal_lists (omega arith) refl
spelled_identifier (a ∷ b ∷ i) (c ∷ d ∷ j) k t h g = equal_lists (omega arith) (spelled_number (b ∷ i) (d ∷ j) t.number h.1 g.1)
spelled_identifier (a ∷ []) (c ∷ d ∷ j) k t h g = absurd (omega (arith, high_above (d ∷ j) t.number g.1))
spelled_identifier (a ∷ b ∷ i) (c ∷ []) k t h g = absurd (omega (arith, high_above (b ∷ i) t.number h.1))
spelled_identifier i j k t h g = absurd (grind arith)

-- A length has one spelling, in a mode other than BER.
pub spelled_length : (m : Mode) → m ≢ Ber → (i j : List ℕ) (n : ℕ) → IsLength m i n → IsLength m j n → i ≡ j
spelled_length m r (a ∷ []) (a' ∷ []) n h g = equal_lists (omega arith) refl
spelled_length m r (a ∷ b ∷ []) (a' ∷ b' ∷ []) n h g = equal_lists (omega arith) (equal_lists (omega arith) refl)
spelled_length m r (a ∷ b ∷ c ∷ []) (a' ∷ b' ∷ c' ∷ []) n h g = equal_lists (omega arith) (equal_lists (omega arith) (equal_lists (omega arith) refl))
spelled_length m r (a ∷ b ∷ c ∷ d ∷ []) (a' ∷ b' ∷ c' ∷ d' ∷ []) n h g = equal_lists (omega arith) (equal_lists (omega arith) (equal_lists (omega arith) (equal_lists (omega arith) refl)))
spelled_length m r (a ∷ b ∷ c ∷ d ∷ e ∷ []) (a' ∷ b' ∷ c' ∷ d' ∷ e' ∷ []) n h g = equal_lists (omega arith) (equal_lists (omega arith) (equal_lists (omega arith) (equal_lists (omega arith) (equal_lists (omega arith) refl))))
spelled_length m r i j n h g = absurd (grind (arith, shortest m r))

-- So form, tag and length have one header.
pub spelled_header : {m : Mode} {i j : List ℕ} {k : Bool} {t : TagValue} {n : ℕ} → m ≢ Ber → IsHeader m i k t n → IsHeader m j k t n → i ≡ j
spelled_header {m} {i} {j} {k} {t} {n} r h g =
    let a : h.identifier ≡ g.identifier = spelled_identifier h.identifier g.identifier k t h.identifier_is g.identifier_is in
    let b : h.size ≡ g.size = spelled_length m r h.size g.size n h.size_is g.size_is in
    let left : i ≡ h.identifier ++ h.size = h.whole in
    let right : j ≡ g.identifier ++ g.size = g.whole in
    cc

spelled_constructed : {m : Mode} {a b : List ℕ} {t : TagValue} {c d : List ℕ} → m ≢ Ber → c ≡ d → IsConstructed m a t c → IsConstructed m b t d → a ≡ b
spelled_constructed {m} {a} {b} {t} {c} {d} r e x y =
    elim x [
      | definite p h i v ↦ elim y [
        | definite q g j w ↦ let header : h ≡ g = spelled_header r i (subst (λ (z : List ℕ). IsHeader m g true t (length z)) (sym e) j) in cc
        | indefinite q g o j w ↦ one_form m r p q
      ]
      | indefinite p h o i v ↦ elim y [
        | definite q g j w ↦ one_form m r q p
        | indefinite q g n j w ↦ let identifier : h ≡ g = spelled_identifier h g true t i j in cc
      ]
    ]

mutual
  -- In a mode other than BER a tree has one spelling at most.
  pub one_spelling : (m : Mode) (t : Tree) (a b : List ℕ) → m ≢ Ber → Spells m t a → Spells m t b → a ≡ b
  one_spelling m (primitive t v) a b r h g =
      let header : h.header ≡ g.header = spelled_header r h.header_is g.header_is in
      let left : a ≡ h.header ++ v = h.whole in
      let right : b ≡ g.header ++ v = g.whole in
      cc
  one_spelling m (constructed t ts) a b r h g = spelled_constructed r (one_spellings m ts h.0 g.0 r h.2 g.2) h.1 g.1

  -- And so have trees, one after the other.
  pub one_spellings : (m : Mode) (ts : Trees) (a b : List ℕ) → m ≢ Ber → SpellsAll m ts a → SpellsAll m ts b → a ≡ b
  one_spellings m none a b r h g = h ∙ sym g
  one_spellings m (more t ts) a b r h g =
      let first : h.0 ≡ g.0 = one_spelling m t h.0 g.0 r h.2 g.2 in
      let others : h.1 ≡ g.1 = one_spellings m ts h.1 g.1 r h.3 g.3 in
      let left : a ≡ h.0 ++ h.1 = h.4 in
      let right : b ≡ g.0 ++ g.1 = g.4 in
      cc
