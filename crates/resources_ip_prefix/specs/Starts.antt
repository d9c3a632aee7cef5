-- Prefixes in the order of their first addresses, in which they are listed.
use Rattle.std.specs.Prelude.{◌≡◌, ◌↔◌}
use Rattle.std.proofs.Common.{subst}
use Rattle.std.specs.Cmp.{IsTotalOrder, then_total, on_total, nat_cmp_total, tied_itself}
use Rattle.std.specs.Ordering.{nat_cmp, ordering_then}
use Rattle.std.specs.declared.cmp.Ordering.{Ordering}
use Rattle.std.specs.declared.cmp.Ordering.TheVariants.{Equal}
use Rattle.resources_ip_prefix.specs.AddrPrefixes.{PrefixValue, family_cmp}
use Rattle.resources_ip_prefix.specs.Orders.{family_total, family_same, both_equal, nat_same, prefix_is}

-- By family, IPv4 first, then by the first address, then the shorter prefix first.
abbrev pub start_cmp : PrefixValue → PrefixValue → Ordering
start_cmp p q = ordering_then (family_cmp p.family q.family)
    (ordering_then (nat_cmp p.first q.first) (nat_cmp p.len q.len))

pub start_total : IsTotalOrder start_cmp
start_total =
    then_total (on_total (λ p. p.family) family_total)
    (then_total (on_total (λ p. p.first) nat_cmp_total) (on_total (λ p. p.len) nat_cmp_total))

-- Only equal prefixes aren't told apart.
pub start_same : (p q : PrefixValue) → (start_cmp p q ≡ Equal) ↔ (p ≡ q)
start_same p q = (
  λ e.
      let one = both_equal (family_cmp p.family q.family) (ordering_then (nat_cmp p.first q.first) (nat_cmp p.len q.len)) e in
      let two = both_equal (nat_cmp p.first q.first) (nat_cmp p.len q.len) one.1 in
      prefix_is (family_same p.family q.family one.0) (nat_same p.first q.first two.0)
      (nat_same p.len q.len two.1),
  λ e. subst (λ (r : PrefixValue). start_cmp p r ≡ Equal) e (tied_itself start_total p),
)
