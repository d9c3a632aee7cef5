use Rattle.std.proofs.Common.{map, take}
use Rattle.rpki_rules.specs.Views.{provision_of, customer_of}
use Rattle.rpki_rules.specs.Groups.{Gathers}
use Rattle.rpki_rules.proofs.customer.gather.Given as goal

abbrev pub invariant-loop-pair : goal.invariant-loop-pair
invariant-loop-pair l = Gathers (map provision_of (take l.pair-index l.pairs)) (map customer_of l.all.items)
