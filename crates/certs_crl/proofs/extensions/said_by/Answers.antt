use Rattle.certs_crl.proofs.of_bcder_content.Taking.{on_content}
use Rattle.certs_crl.proofs.Pairs.{both_in_order, both_swapped, none_said}
use Rattle.certs_crl.proofs.extensions.said_by.Goals as goal

pub returns-then-in_order : goal.returns-then-in_order
returns-then-in_order c = both_in_order _ _ _ (c.are_key_and_number-in_order.ensures.0 c.if-in_order.true) c.values_of.ensures

pub returns-then-swapped : goal.returns-then-swapped
returns-then-swapped c = both_swapped _ _ _ (c.are_key_and_number-swapped.ensures.0 c.if-swapped.true) c.values_of-then-swapped.ensures

pub returns : goal.returns
returns c = on_content _ (none_said _ _
    (λ p. let yes = c.are_key_and_number-in_order.ensures.1 p in let no = c.if-in_order.false in absurd cc)
    (λ p. let yes = c.are_key_and_number-swapped.ensures.1 p in let no = c.if-swapped.false in absurd cc))
