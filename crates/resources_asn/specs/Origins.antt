-- Origins, and the order in which they are listed.
use Rattle.std.specs.Prelude.{◌≡◌, ◌↔◌, ℕ}
use Rattle.std.proofs.Common.{subst}
use Rattle.std.specs.Cmp.{IsTotalOrder, then_total, on_total, nat_cmp_total, tied_itself}
use Rattle.std.specs.Ordering.{nat_cmp, ordering_then}
use Rattle.std.specs.declared.cmp.Ordering.{Ordering}
use Rattle.std.specs.declared.cmp.Ordering.TheVariants.{Equal}
use Rattle.resources_ip_prefix.specs.Orders.{both_equal, nat_same}
use Rattle.resources_ip_prefix.specs.AddrPrefixes.{PrefixValue}
use Rattle.resources_ip_prefix.specs.Starts.{start_cmp, start_total, start_same}
use Rattle.resources_asn.specs.declared.origin.Origin.{Origin}

-- A prefix, a greatest length, and an AS number.
pub record OriginValue : Type 0 where
  pub prefix : PrefixValue
  pub max_len : ℕ
  pub asn : ℕ

abbrev pub origin_value : Origin → OriginValue
origin_value o = record { prefix = o.prefix; max_len = o.max_len; asn = o.asn.value }

-- By prefix, whose order is by family, first address and length, then by greatest length, then by AS number.
abbrev pub origin_cmp : OriginValue → OriginValue → Ordering
origin_cmp x y = ordering_then (start_cmp x.prefix y.prefix)
    (ordering_then (nat_cmp x.max_len y.max_len) (nat_cmp x.asn y.asn))

pub origin_total : IsTotalOrder origin_cmp
origin_total =
    then_total (on_total (λ x. x.prefix) start_total)
    (then_total (on_total (λ x. x.max_len) nat_cmp_total) (on_total (λ x. x.asn) nat_cmp_total))

origin_is : {x y : OriginValue} → x.prefix ≡ y.prefix → x.max_len ≡ y.max_len → x.asn ≡ y.asn
    → x ≡ y
origin_is p m a = λ i. record { prefix = p i; max_len = m i; asn = a i }

-- Only equal origins aren't told apart.
pub origin_same : (x y : OriginValue) → (origin_cmp x y ≡ Equal) ↔ (x ≡ y)
origin_same x y = (
  λ e.
      let one = both_equal (start_cmp x.prefix y.prefix) (ordering_then (nat_cmp x.max_len y.max_len) (nat_cmp x.asn y.asn)) e in
      let two = both_equal (nat_cmp x.max_len y.max_len) (nat_cmp x.asn y.asn) one.1 in
      origin_is ((start_same x.prefix y.prefix).0 one.0) (nat_same x.max_len y.max_len two.0)
      (nat_same x.asn y.asn two.1),
  λ e. subst (λ (z : OriginValue). origin_cmp x z ≡ Equal) e (tied_itself origin_total x),
)
