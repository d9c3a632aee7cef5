-- Paths that become anchored, one after the other.
use Rattle.std.proofs.Common.{◌≡◌, ℕ, ◌+◌, ◌<◌, ◌≤◌, zero, suc, Bool, true, false, List, [], ◌∷◌, Option, Some, length, set, refl, sym, ◌∙◌, subst, inl, inr, arith}
use Rattle.std.specs.Prelude.{◌↔◌, ◌⊎◌, IsTrue}
use Rattle.std.specs.List.{slice_get}
use Rattle.std.proofs.lemmas.Bool.Decides.{eqb_tells}
use Rattle.std.proofs.lemmas.Option.{slice_get_within}
use Rattle.std.proofs.Math.Decide.{dec_lt}
use Rattle.std.proofs.Math.ListN.{length-set}
use Rattle.objects_rta_anchors.specs.declared.anchor.Anchor.{Anchor}
use Rattle.objects_rta_anchors.specs.declared.anchor.Anchor.TheVariants.{Open}
use Rattle.objects_rta_valid.specs.certs_extension.Cert.{CertValue}
use Rattle.objects_rta_valid.proofs.Tables.{at_set, beside_set}
use Rattle.objects_rta_anchors.specs.Anchors.{AreMarked, IsMarked}
use Rattle.objects_rta_anchors.specs.Ends.{IsOpenAt}

-- Lists that have the same at each place are the same.
pub same_lists : {X : Type 0} (xs ys : List X) → length xs ≡ length ys → ((k : ℕ) → slice_get xs k ≡ slice_get ys k) → xs ≡ ys
same_lists [] [] e h = refl
same_lists [] (y ∷ ys) e h = absurd (omega arith)
same_lists (x ∷ xs) [] e h = absurd (omega arith)
same_lists (x ∷ xs) (y ∷ ys) e h = let rest : xs ≡ ys = same_lists xs ys (omega arith) (λ k. h (suc k)) in let first : x ≡ y = (let s : Some x ≡ Some y = h zero in cc) in cc

-- So far: the paths below i are marked, or not, and all else is as it was.
pub record MarkedBelow (P : ℕ → Type 0) (by : Anchor) (i : ℕ) (olds news : List Anchor) : Type 0 where
  pub long : length news ≡ length olds
  pub ahead : (k : ℕ) → i ≤ k → slice_get news k ≡ slice_get olds k
  pub each : (k : ℕ) → k < i → IsMarked P by olds news k

pub marked_from : (P : ℕ → Type 0) (by : Anchor) (i : ℕ) (olds : List Anchor) → ((k : ℕ) → k < i → P k → ⊥) → MarkedBelow P by i olds olds
marked_from P by i olds none = record { long = refl; ahead = λ k h. refl; each = λ k h. inr (none k h, refl) }

pub marked_none : (P : ℕ → Type 0) (by : Anchor) (olds : List Anchor) → MarkedBelow P by 0 olds olds
marked_none P by olds = marked_from P by 0 olds (λ k h p. omega arith)

pub before : (i k : ℕ) → k < i + 1 → (i ≡ k → ⊥) → k < i
before i k h n = omega (arith, n)

pub marked_yes : (P : ℕ → Type 0) (by : Anchor) (i : ℕ) (olds news : List Anchor) → i < length olds → P i → MarkedBelow P by i olds news → MarkedBelow P by (i + 1) olds (set news i by)
marked_yes P by i olds news lt p m = record {
  long = length-set news i by ∙ m.long;
  ahead = λ k h. beside_set news i k by (λ e. omega (arith, e)) ∙ m.ahead k (omega arith);
  each = λ k h. elim (eqb_tells i k) [
    | inl same ↦ subst (IsMarked P by olds (set news i by)) same.1 (inl (p, at_set news i by (omega (arith, m.long))))
    | inr other ↦ subst (λ (x : Option Anchor). (P k × (x ≡ Some by)) ⊎ ((P k → ⊥) × (x ≡ slice_get olds k))) (sym (beside_set news i k by other.1)) (m.each k (before i k h other.1))
  ];
}

pub marked_no : (P : ℕ → Type 0) (by : Anchor) (i : ℕ) (olds news : List Anchor) → (P i → ⊥) → MarkedBelow P by i olds news → MarkedBelow P by (i + 1) olds news
marked_no P by i olds news none m = record {
  long = m.long;
  ahead = λ k h. m.ahead k (omega arith);
  each = λ k h. elim (eqb_tells i k) [
    | inl same ↦ subst (IsMarked P by olds news) same.1 (inr (none, m.ahead i (omega arith)))
    | inr other ↦ m.each k (before i k h other.1)
  ];
}

pub marked_all : (P : ℕ → Type 0) (by : Anchor) (i : ℕ) (olds news : List Anchor) → ((k : ℕ) → P k → k < length olds) → length olds ≤ i → MarkedBelow P by i olds news → AreMarked P by olds news
marked_all P by i olds news inside h m = record {
  long = m.long;
  each = λ k. elim (split k i) [
    | inl lt ↦ m.each k lt
    | inr ge ↦ inr ((λ p. let lt : k < length olds = inside k p in omega arith), m.ahead k ge)
  ];
}
  where
    split : (a b : ℕ) → (a < b) ⊎ (b ≤ a)
    split a b = elim (dec_lt a b) [ yes h ↦ inl h | no h ↦ inr (omega (arith, h)) ]

-- Where P holds of none, nothing changes.
pub marks_none : (P : ℕ → Type 0) (by : Anchor) (olds news : List Anchor) → ((k : ℕ) → P k → ⊥) → AreMarked P by olds news → news ≡ olds
marks_none P by olds news none m = same_lists news olds m.long (λ k. elim (m.each k) [ inl p ↦ absurd (none k p.0) | inr e ↦ e.1 ])

-- By whichever words the paths are told.
pub marks_same : (P Q : ℕ → Type 0) (by : Anchor) (olds news : List Anchor) → ((k : ℕ) → P k ↔ Q k) → AreMarked P by olds news → AreMarked Q by olds news
marks_same P Q by olds news h m = record {
  long = m.long;
  each = λ k. elim (m.each k) [ inl p ↦ inl ((h k).0 p.0, p.1) | inr n ↦ inr ((λ q. n.0 ((h k).1 q)), n.1) ];
}

-- Whether P holds of some below i.
abbrev pub FoundBelow : (ℕ → Type 0) → ℕ → Bool → Type 0
FoundBelow P i found = IsTrue found ↔ ((k : ℕ) × (k < i) × P k)

pub found_none : (P : ℕ → Type 0) → FoundBelow P 0 false
found_none P = ((λ t. let wrong : false ≡ true = t in absurd cc), (λ s. let lt : s.0 < 0 = s.1 in absurd (omega (arith, lt))))

pub found_yes : (P : ℕ → Type 0) (i : ℕ) → P i → FoundBelow P (i + 1) true
found_yes P i p = ((λ t. (i, omega arith, p)), (λ s. refl))

pub found_no : (P : ℕ → Type 0) (i : ℕ) (found : Bool) → (P i → ⊥) → FoundBelow P i found → FoundBelow P (i + 1) found
found_no P i found none h = (
  (λ t. let s = h.0 t in (s.0, (let lt : s.0 < i = s.1 in omega arith), s.2)),
  (λ s. elim (eqb_tells i s.0) [
    | inl same ↦ absurd (none (subst P (sym same.1) s.2))
    | inr other ↦ h.1 (s.0, before i s.0 s.1 other.1, s.2)
  ]),
)

pub found_all : (P : ℕ → Type 0) (i n : ℕ) (found : Bool) → ((k : ℕ) → P k → k < n) → n ≤ i → FoundBelow P i found → (IsTrue found ↔ ((k : ℕ) × P k))
found_all P i n found inside h f = (
  (λ t. let s = f.0 t in (s.0, s.2)),
  (λ s. f.1 (s.0, (let lt : s.0 < n = inside s.0 s.1 in omega arith), s.1)),
)

pub found_same : (P Q : ℕ → Type 0) (found : Bool) → ((k : ℕ) → P k ↔ Q k) → (IsTrue found ↔ ((k : ℕ) × P k)) → (IsTrue found ↔ ((k : ℕ) × Q k))
found_same P Q found h f = ((λ t. let s = f.0 t in (s.0, (h s.0).0 s.1)), (λ s. f.1 (s.0, (h s.0).1 s.1)))

-- What holds of the path is told by how it is anchored now, if that is as it was.
pub open_told : (A : CertValue → Type 0) (certs : List CertValue) (ends : List ℕ) (olds news : List Anchor) (signer : ℕ) (b : Bool) → slice_get news signer ≡ slice_get olds signer
    → (IsTrue b ↔ IsOpenAt A certs ends news signer) → (IsTrue b ↔ IsOpenAt A certs ends olds signer)
open_told A certs ends olds news signer b e h = (
  (λ t. let o = h.0 t in (sym e ∙ o.0, o.1)),
  (λ o. h.1 (e ∙ o.0, o.1)),
)

pub open_inside : (A : CertValue → Type 0) (certs : List CertValue) (ends : List ℕ) (anchors : List Anchor) (signer : ℕ) → IsOpenAt A certs ends anchors signer → signer < length anchors
open_inside A certs ends anchors signer o = slice_get_within anchors signer Open o.0

-- By lists that are the same.
pub marked_of : (A : CertValue → Type 0) (by : Anchor) (given certs : List CertValue) (lent ends : List ℕ) (olds news : List Anchor) → given ≡ certs → lent ≡ ends
    → AreMarked (IsOpenAt A given lent olds) by olds news → AreMarked (IsOpenAt A certs ends olds) by olds news
marked_of A by given certs lent ends olds news e f m =
    subst (λ (xs : List CertValue). AreMarked (IsOpenAt A xs ends olds) by olds news) e (subst (λ (ys : List ℕ). AreMarked (IsOpenAt A given ys olds) by olds news) f m)

pub found_of : (A : CertValue → Type 0) (found : Bool) (given certs : List CertValue) (lent ends : List ℕ) (olds : List Anchor) → given ≡ certs → lent ≡ ends
    → (IsTrue found ↔ ((k : ℕ) × IsOpenAt A given lent olds k)) → (IsTrue found ↔ ((k : ℕ) × IsOpenAt A certs ends olds k))
found_of A found given certs lent ends olds e f m =
    subst (λ (xs : List CertValue). IsTrue found ↔ ((k : ℕ) × IsOpenAt A xs ends olds k)) e (subst (λ (ys : List ℕ). IsTrue found ↔ ((k : ℕ) × IsOpenAt A given ys olds k)) f m)
