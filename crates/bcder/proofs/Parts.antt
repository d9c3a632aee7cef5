-- Octets as subidentifiers, one after the other.
use Rattle.std.proofs.Common.{◌≡◌, ℕ, ◌<◌, ◌≤◌, ◌↔◌, inl, inr, List, [], ◌∷◌, ◌++◌, refl, sym, ap, ◌∙◌, subst, append_assoc}
use Rattle.std.proofs.lemmas.Bool.{cases_lt}
use Rattle.std.proofs.lemmas.List.{append-nil}
use Rattle.std.proofs.lemmas.List.Elements.{All-nil, All-push}
use Rattle.bcder.specs.Subidentifiers.{base128, IsSubidentifier, InTurn}
use Rattle.bcder.specs.Identifiers.{IsIdentifier, AreSubidentifiers}
use Rattle.bcder.specs.Components.{numbers_behind, split_first, components_of, HasComponents, AreComponents}
use Rattle.bcder.proofs.Numbers.{High, numbers_are, split_is}

-- Whole subidentifiers, after which one may have begun that doesn't end.
pub record Parts (octets : List ℕ) : Type 0 where
  pub whole : List ℕ
  pub begun : List ℕ
  pub numbers : List ℕ
  pub split : octets ≡ whole ++ begun
  pub spelled : InTurn IsSubidentifier whole numbers
  pub unended : High begun

-- Octets with bit 8 set, and one with it clear.
pub subidentifier : (front : List ℕ) (last : ℕ) → High front → last < 128 → IsSubidentifier (front ++ last ∷ []) (base128 (front ++ last ∷ []))
subidentifier front last h l = record { front = front; last = last; whole = refl; more = h; ends = l; value = refl }

behind_front : (front : List ℕ) (a : ℕ) (v : List ℕ) → (front ++ a ∷ []) ++ v ≡ front ++ (a ∷ v)
behind_front front a v = append_assoc front (a ∷ []) v

-- One more in front.
more_parts : (first octets : List ℕ) (n : ℕ) → IsSubidentifier first n → Parts octets → Parts (first ++ octets)
more_parts first octets n s p = record {
  whole = first ++ p.whole;
  begun = p.begun;
  numbers = n ∷ p.numbers;
  split = ap (λ (z : List ℕ). first ++ z) p.split ∙ sym (append_assoc first p.whole p.begun);
  spelled = (first, p.whole, refl, s, p.spelled);
  unended = p.unended;
}

parts_behind : (front octets : List ℕ) → High front → Parts (front ++ octets)
parts_behind front [] h = record { whole = []; begun = front; numbers = []; split = append-nil front; spelled = refl; unended = h }
parts_behind front (a ∷ v) h =
    elim (cases_lt a 128) [
      | inl l ↦ subst Parts (behind_front front a v) (more_parts (front ++ a ∷ []) v (base128 (front ++ a ∷ [])) (subidentifier front a h l) (parts_behind [] v (All-nil (λ a. 128 ≤ a))))
      | inr g ↦ subst Parts (behind_front front a v) (parts_behind (front ++ a ∷ []) v (All-push (λ a. 128 ≤ a) front a h g))
    ]

pub parts : (octets : List ℕ) → Parts octets
parts octets = parts_behind [] octets (All-nil (λ a. 128 ≤ a))

-- The components that octets have are there.
pub has_components : (octets : List ℕ) → HasComponents octets (components_of octets)
has_components octets =
    let p = parts octets in
    let e : p.numbers ≡ numbers_behind 0 octets = sym (numbers_are p.whole p.begun p.numbers p.spelled p.unended) ∙ ap (numbers_behind 0) (sym p.split) in
    record {
      whole = p.whole;
      begun = p.begun;
      numbers = p.numbers;
      split = p.split;
      spelled = p.spelled;
      unended = p.unended;
      components = subst (λ (z : List ℕ). AreComponents p.numbers (split_first z)) e (split_is p.numbers);
    }

-- Octets that end with bit 8 clear are subidentifiers.
spelled_behind : (front octets : List ℕ) (last : ℕ) → High front → last < 128 → AreSubidentifiers (front ++ (octets ++ last ∷ []))
spelled_behind front [] last h l = (base128 (front ++ last ∷ []), [], (front ++ last ∷ [], [], sym (append-nil (front ++ last ∷ [])), subidentifier front last h l, refl))
spelled_behind front (a ∷ v) last h l =
    elim (cases_lt a 128) [
      | inl k ↦
          let r = spelled_behind [] v last (All-nil (λ a. 128 ≤ a)) l in
          subst AreSubidentifiers (behind_front front a (v ++ last ∷ [])) (base128 (front ++ a ∷ []), r.0 ∷ r.1, (front ++ a ∷ [], v ++ last ∷ [], refl, subidentifier front a h k, r.2))
      | inr g ↦ subst AreSubidentifiers (behind_front front a (v ++ last ∷ [])) (spelled_behind (front ++ a ∷ []) v last (All-push (λ a. 128 ≤ a) front a h g) l)
    ]

-- And subidentifiers end so.
ends_low : (octets : List ℕ) (n : ℕ) (ns : List ℕ) → InTurn IsSubidentifier octets (n ∷ ns) → IsIdentifier octets
ends_low octets n [] t =
    let s = t.3 in
    record { front = s.front; last = s.last; whole = t.2 ∙ ap (λ (z : List ℕ). t.0 ++ z) t.4 ∙ append-nil t.0 ∙ s.whole; ends = s.ends }
ends_low octets n (m ∷ ns) t =
    let i = ends_low t.1 m ns t.4 in
    record { front = t.0 ++ i.front; last = i.last; whole = t.2 ∙ ap (λ (z : List ℕ). t.0 ++ z) i.whole ∙ sym (append_assoc t.0 i.front (i.last ∷ [])); ends = i.ends }

pub are_subidentifiers : (octets : List ℕ) → IsIdentifier octets ↔ AreSubidentifiers octets
are_subidentifiers octets = (
  λ i. subst AreSubidentifiers (sym i.whole) (spelled_behind [] i.front i.last (All-nil (λ a. 128 ≤ a)) i.ends),
  λ t. ends_low octets t.0 t.1 t.2,
)
