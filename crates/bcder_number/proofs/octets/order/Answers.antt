use Rattle.std.proofs.Common.{◌≡◌, true, false, refl}
use Rattle.bcder_number.proofs.Orders.{order_clear, order_set}
use Rattle.bcder_number.proofs.octets.order.Goals as goal

pub returns-in-true-true : goal.returns-in-true-true
returns-in-true-true c = λ x y s t. rw (c.then.ensures, c.cmp.ensures, c.cmp-in-true-true.ensures) (order_set c.args.a.now c.args.b.now x y (c.in-true-true.ensures.0 refl) (c.in-true-true.ensures'.0 refl) s t)

pub returns-in-false-false : goal.returns-in-false-false
returns-in-false-false c = λ x y s t.
    rw (c.then-in-false-false.ensures, c.cmp-in-false-false.ensures, c.cmp-in-false-false-2.ensures)
    (order_clear c.args.a.now c.args.b.now x y
    (λ n. let h : false ≡ true = c.in-false-false.ensures.1 n in cc)
    (λ n. let h : false ≡ true = c.in-false-false.ensures'.1 n in cc)
    s t)
