use Rattle.std.proofs.Common.{arith, ℕ, List, get_or, drop, [], ◌∷◌, refl, ap}
use Rattle.bcder_tree.proofs.Slices.{first4}
use Rattle.bcder_tree.proofs.length.length_of_4.Goals as goal

pub returns-then-is_shortest-clause-found : goal.returns-then-is_shortest-clause-found
returns-then-is_shortest-clause-found c =
    let s = c.args.octets.now in
    record {
      text = 132 ∷ get_or s 0 0 ∷ get_or s 1 0 ∷ get_or s 2 0 ∷ get_or s 3 0 ∷ [];
      rest = drop 4 s;
      is = (refl, omega (arith, c.type_inv.octets 0), omega (arith, c.type_inv.octets 1), omega (arith, c.type_inv.octets 2), omega (arith, c.type_inv.octets 3), omega arith, c.if-is_shortest.ensures.0 refl);
      whole = ap (λ (z : List ℕ). 132 ∷ z) (first4 s (omega arith));
      long = refl;
    }
