-- Where paths end.
use Rattle.std.proofs.Common.{◌≡◌, ℕ, ◌<◌, zero, suc, List, [], ◌∷◌, Some, length, refl, sym, ◌∙◌, subst, arith}
use Rattle.std.specs.Prelude.{◌↔◌}
use Rattle.std.specs.List.{slice_get}
use Rattle.std.proofs.lemmas.Option.{slice_get_within}
use Rattle.objects_rta_anchors.specs.declared.anchor.Anchor.{Anchor}
use Rattle.objects_rta_valid.specs.certs_extension.Cert.{CertValue}
use Rattle.objects_rta_valid.specs.Places.{Stands}
use Rattle.objects_rta_anchors.specs.Anchors.{AnchoredValue, IsOpenEnd}
use Rattle.objects_rta_anchors.specs.Ends.{AreEnds, IsOpenAt}

pub some_at : {X : Type 0} (xs : List X) (k : ℕ) → k < length xs → (x : X) × (slice_get xs k ≡ Some x)
some_at [] k lt = absurd (omega arith)
some_at (x ∷ xs) zero lt = (x, refl)
some_at (x ∷ xs) (suc k) lt = some_at xs k (omega arith)

one_same : (a b : ℕ) → ◌≡◌ {A = List ℕ} (a ∷ []) (b ∷ []) → a ≡ b
one_same a b e = cc

-- Told by the list of ends, or by the path.
pub open_ends : (A : CertValue → Type 0) (v : AnchoredValue) (ends : List ℕ) → AreEnds v.paths ends → (k : ℕ) → IsOpenAt A v.rta.signed.certs ends v.anchors k ↔ IsOpenEnd A v k
open_ends A v ends h k = (
  (λ o.
      let inside : k < length ends = slice_get_within ends k o.1.one o.1.at in
      let p = some_at v.paths k (omega (arith, inside, h.long)) in
      record { path = p.0; last = o.1.one; at = p.1; ends = h.each k o.1.one p.0 p.1 o.1.at; is_open = o.0; is = o.1.is }),
  (λ o.
      let inside : k < length v.paths = slice_get_within v.paths k o.path o.at in
      let e = some_at ends k (omega (arith, inside, h.long)) in
      let same : o.last ≡ e.0 = one_same o.last e.0 (sym o.ends ∙ h.each k e.0 o.path o.at e.1) in
      (o.is_open, record { one = e.0; at = e.1; is = subst (λ (n : ℕ). Stands v.rta.signed.certs n A) same o.is })),
)

-- What is asked of the path, told so or so.
pub end_of : (A : CertValue → Type 0) (v : AnchoredValue) (ends : List ℕ) → AreEnds v.paths ends → (k : ℕ) → IsOpenAt A v.rta.signed.certs ends v.anchors k → IsOpenEnd A v k
end_of A v ends h k = (open_ends A v ends h k).0

pub at_of : (A : CertValue → Type 0) (v : AnchoredValue) (ends : List ℕ) → AreEnds v.paths ends → (k : ℕ) → IsOpenEnd A v k → IsOpenAt A v.rta.signed.certs ends v.anchors k
at_of A v ends h k = (open_ends A v ends h k).1

-- By lists that are lent.
pub lent_of : (A : CertValue → Type 0) (given certs : List CertValue) (lent ends : List ℕ) (told anchors : List Anchor) (k : ℕ) → given ≡ certs → lent ≡ ends → told ≡ anchors
    → IsOpenAt A given lent told k → IsOpenAt A certs ends anchors k
lent_of A given certs lent ends told anchors k e f g o =
    subst (λ (xs : List CertValue). IsOpenAt A xs ends anchors k) e (subst (λ (ys : List ℕ). IsOpenAt A given ys anchors k) f (subst (λ (zs : List Anchor). IsOpenAt A given lent zs k) g o))
