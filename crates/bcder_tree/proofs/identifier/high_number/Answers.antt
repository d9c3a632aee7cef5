use Rattle.std.proofs.Common.{arith, get_or, drop, [], ◌∷◌, refl}
use Rattle.bcder_tree.proofs.Slices.{first1, first2, first3}
use Rattle.bcder_tree.proofs.identifier.high_number.Goals as goal

pub returns-in-len1-up-clause-found : goal.returns-in-len1-up-clause-found
returns-in-len1-up-clause-found c =
    let s = c.args.octets.now in
    record { text = get_or s 0 0 ∷ []; rest = drop 1 s; is = (omega arith, omega arith, omega arith); whole = first1 s (omega arith); long = refl }

pub returns-in-len2-up-clause-found : goal.returns-in-len2-up-clause-found
returns-in-len2-up-clause-found c =
    let s = c.args.octets.now in
    record { text = get_or s 0 0 ∷ get_or s 1 0 ∷ []; rest = drop 2 s; is = (omega arith, omega (arith, c.type_inv.octets 0), omega arith, omega arith); whole = first2 s (omega arith); long = refl }

pub returns-in-len3-up-clause-found : goal.returns-in-len3-up-clause-found
returns-in-len3-up-clause-found c =
    let s = c.args.octets.now in
    record { text = get_or s 0 0 ∷ get_or s 1 0 ∷ get_or s 2 0 ∷ []; rest = drop 3 s; is = (omega arith, omega (arith, c.type_inv.octets 0), omega arith, omega (arith, c.type_inv.octets 1), omega arith, omega arith); whole = first3 s (omega arith); long = refl }
