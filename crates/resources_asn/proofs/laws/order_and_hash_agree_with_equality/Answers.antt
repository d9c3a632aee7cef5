use Rattle.std.proofs.Common.{◌≡◌, subst}
use Rattle.std.specs.Cmp.{nat_cmp_total, tied_itself}
use Rattle.std.specs.Ordering.{nat_cmp}
use Rattle.std.specs.declared.cmp.Ordering.TheVariants.{Equal}
use Rattle.resources_asn.specs.resources_ip_prefix.Orders.{nat_same}
use Rattle.resources_asn.specs.Numbers.{Number, same_number}
use Rattle.resources_asn.proofs.laws.order_and_hash_agree_with_equality.Goals as goal

pub returns-clause-order : goal.returns-clause-order
returns-clause-order c a b = (λ e. same_number a b (nat_same a.value b.value e), λ e. subst (λ (z : Number). nat_cmp a.value z.value ≡ Equal) e (tied_itself nat_cmp_total a.value))
