-- The order of prefixes that cover one another.
use Rattle.std.proofs.Common.{◌≡◌, ℕ, ◌-◌, ◌^◌, ◌<◌, ◌≤◌, ◌⊎◌, true, arith, subst, refl, inl, inr}
use Rattle.std.proofs.lemmas.Nat.{pow_pos, pow_below}
use Rattle.std.specs.Cmp.{ranks}
use Rattle.std.specs.Ordering.{nat_cmp, ordering_then, is_lt, MatchOrdering}
use Rattle.std.specs.declared.cmp.Ordering.{Ordering}
use Rattle.std.specs.declared.cmp.Ordering.TheVariants.{Less, Equal, Greater}
use Rattle.resources_ip_prefix.specs.AddrPrefixes.{Family, Ipv4, Ipv6, PrefixValue, IsPrefix, width, span, last_of, Covers, family_cmp, prefix_cmp}
use Rattle.resources_ip_prefix.specs.MaxLens.{MaxLenValue}
use Rattle.resources_ip_prefix.specs.MaxLenTexts.{IsMaxLenText}
use Rattle.resources_ip_prefix.specs.Orders.{nat_same}
use Rattle.resources_ip_prefix.specs.Starts.{start_cmp}
use Rattle.resources_ip_prefix.proofs.MaxLenTexts.{max_len_once}
use Rattle.std.specs.Prelude.{List}

less_is : (r : Ordering) → is_lt r ≡ true → r ≡ Less
less_is Less e = refl
less_is Equal e = absurd cc
less_is Greater e = absurd cc

then_less : (r s : Ordering) → ordering_then r s ≡ Less → (r ≡ Less) ⊎ ((r ≡ Equal) × (s ≡ Less))
then_less Less s e = inl refl
then_less Equal s e = inr (refl, e)
then_less Greater s e = absurd cc

below_is : (x y : ℕ) → nat_cmp x y ≡ Less → x < y
below_is x y e = subst (λ (r : Ordering). MatchOrdering r (x < y) (x ≡ y) (y < x)) e (ranks x y)

family_not_less : (f g : Family) → f ≡ g → ¬ (family_cmp f g ≡ Less)
family_not_less Ipv4 Ipv4 e l = absurd cc
family_not_less Ipv4 Ipv6 e l = absurd cc
family_not_less Ipv6 Ipv4 e l = absurd cc
family_not_less Ipv6 Ipv6 e l = absurd cc

longer : (w a b : ℕ) → a ≤ w → b ≤ w → 2 ^ (w - b) ≤ 2 ^ (w - a) → ¬ (b < a)
longer w a b fits small spans less =
    let more = pow_below (w - a) (w - b) (omega arith) in
    omega arith

pub not_before : (p q : PrefixValue) → IsPrefix p → IsPrefix q → Covers p q → ¬ (is_lt (prefix_cmp p q) ≡ true)
not_before p q hp hq c t =
    let some_p : 0 < span p.family p.len = pow_pos (width p.family - p.len) in
    let some_q : 0 < span q.family q.len = pow_pos (width q.family - q.len) in
    let low = (c.1 q.first (omega arith, omega arith)).0 in
    let high = (c.1 (last_of q) (omega arith, omega arith)).1 in
    elim (then_less (family_cmp p.family q.family) (ordering_then (nat_cmp (last_of p) (last_of q)) (nat_cmp q.len p.len)) (less_is (prefix_cmp p q) t)) [
      | inl f ↦ family_not_less p.family q.family c.0 f
      | inr later ↦
          elim (then_less (nat_cmp (last_of p) (last_of q)) (nat_cmp q.len p.len) later.1) [
            | inl l ↦ let less = below_is (last_of p) (last_of q) l in omega arith
            | inr both ↦
                let same = nat_same (last_of p) (last_of q) both.0 in
                let spans : span q.family q.len ≤ span p.family p.len = omega arith in
                longer (width q.family) p.len q.len (subst (λ (f : Family). p.len ≤ width f) c.0 hp.fits) hq.fits (subst (λ (f : Family). span q.family q.len ≤ span f p.len) c.0 spans) (below_is q.len p.len both.1)
          ]
    ]

above_is : (x y : ℕ) → nat_cmp x y ≡ Greater → y < x
above_is x y e = subst (λ (r : Ordering). MatchOrdering r (x < y) (x ≡ y) (y < x)) e (ranks x y)

then_greater : (r s : Ordering) → ordering_then r s ≡ Greater → (r ≡ Greater) ⊎ ((r ≡ Equal) × (s ≡ Greater))
then_greater Less s e = absurd cc
then_greater Equal s e = inr (refl, e)
then_greater Greater s e = inl refl

family_not_greater : (f g : Family) → f ≡ g → ¬ (family_cmp f g ≡ Greater)
family_not_greater Ipv4 Ipv4 e l = absurd cc
family_not_greater Ipv4 Ipv6 e l = absurd cc
family_not_greater Ipv6 Ipv4 e l = absurd cc
family_not_greater Ipv6 Ipv6 e l = absurd cc

-- A prefix isn't listed after one that it covers.
pub not_behind : (p q : PrefixValue) → IsPrefix p → IsPrefix q → Covers p q → ¬ (start_cmp p q ≡ Greater)
not_behind p q hp hq c t =
    let some_p : 0 < span p.family p.len = pow_pos (width p.family - p.len) in
    let some_q : 0 < span q.family q.len = pow_pos (width q.family - q.len) in
    let low = (c.1 q.first (omega arith, omega arith)).0 in
    let high = (c.1 (last_of q) (omega arith, omega arith)).1 in
    elim (then_greater (family_cmp p.family q.family) (ordering_then (nat_cmp p.first q.first) (nat_cmp p.len q.len)) t) [
      | inl f ↦ family_not_greater p.family q.family c.0 f
      | inr later ↦
          elim (then_greater (nat_cmp p.first q.first) (nat_cmp p.len q.len) later.1) [
            | inl l ↦ let more = above_is p.first q.first l in omega arith
            | inr both ↦
                let same = nat_same p.first q.first both.0 in
                let spans : span q.family q.len ≤ span p.family p.len = omega arith in
                longer (width q.family) p.len q.len (subst (λ (f : Family). p.len ≤ width f) c.0 hp.fits) hq.fits (subst (λ (f : Family). span q.family q.len ≤ span f p.len) c.0 spans) (above_is p.len q.len both.1)
          ]
    ]

pub max_len_text_once : (text : List ℕ) (m n : MaxLenValue) → IsMaxLenText text m → IsMaxLenText text n → m ≡ n
max_len_text_once text m n h k =
    let same = max_len_once text m.prefix n.prefix m.max_len n.max_len h.written k.written in
    λ i. record { prefix = same.0 i; max_len = same.1 i }
