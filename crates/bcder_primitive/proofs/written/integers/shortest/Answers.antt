use Rattle.bcder_primitive.proofs.Numbers.{all_octets}
use Rattle.bcder_primitive.proofs.WrittenNumbers.{fewest_few, last_shortest, last_same}
use Rattle.bcder_primitive.proofs.written.integers.shortest.Goals as goal
use Rattle.bcder_primitive.specs.Integers.{IsFewest}
use Rattle.std.proofs.Common.{ℕ, ◌-◌, ◌≤◌, length, get_or, Fits, w8, subst, sym, rules, arith}

pub overflow_sub-result : goal.overflow_sub-result
overflow_sub-result c =
    let few = fewest_few c.args.steps c.fewest.result (length c.args.octets.now - 1) c.fewest.ensures c.requires.close in
    omega (arith, few, c.requires.some)

pub returns-clause-shortest : goal.returns-clause-shortest
returns-clause-shortest c = λ x e is.
    let s = c.args.octets.now in
    let n = c.fewest.result in
    let few = fewest_few c.args.steps n (length s - 1) c.fewest.ensures c.requires.close in
    let there : n ≤ length s = omega (arith, few, c.requires.some) in
    let fits : (i : ℕ) → Fits w8 (get_or s i 0) = search rules in
    last_shortest s x n (all_octets s fits) is (subst (λ k. IsFewest k n) (sym e) c.fewest.ensures) there

pub returns-clause-same : goal.returns-clause-same
returns-clause-same c = λ x e is.
    let s = c.args.octets.now in
    let n = c.fewest.result in
    let few = fewest_few c.args.steps n (length s - 1) c.fewest.ensures c.requires.close in
    let there : n ≤ length s = omega (arith, few, c.requires.some) in
    let fits : (i : ℕ) → Fits w8 (get_or s i 0) = search rules in
    last_same s x n (all_octets s fits) is (subst (λ k. IsFewest k n) (sym e) c.fewest.ensures) there
