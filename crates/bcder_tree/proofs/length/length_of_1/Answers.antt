use Rattle.std.proofs.Common.{arith, ℕ, List, get_or, drop, [], ◌∷◌, refl, ap}
use Rattle.bcder_tree.proofs.Slices.{first1}
use Rattle.bcder_tree.proofs.length.length_of_1.Goals as goal

pub returns-then-is_shortest-clause-found : goal.returns-then-is_shortest-clause-found
returns-then-is_shortest-clause-found c =
    let s = c.args.octets.now in
    record {
      text = 129 ∷ get_or s 0 0 ∷ [];
      rest = drop 1 s;
      is = (refl, omega (arith, c.type_inv.octets 0), omega arith, c.if-is_shortest.ensures.0 refl);
      whole = ap (λ (z : List ℕ). 129 ∷ z) (first1 s (omega arith));
      long = refl;
    }
