use Rattle.std.proofs.Common.{◌≡◌, ◌++◌, take}
use Rattle.std.specs.Prelude.{flat_map}
use Rattle.rpki_rules.specs.Lines.{customer_line}
use Rattle.rpki_rules.specs.Views.{customer_of}
use Rattle.rpki_rules.proofs.lines.customers.push_all.Given as goal

abbrev pub invariant-loop-customer : goal.invariant-loop-customer
invariant-loop-customer l = l.text.items ≡ l.initial.text.items ++ flat_map (λ x. customer_line (customer_of x)) (take l.customer-index l.customers)
