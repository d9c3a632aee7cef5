use Rattle.std.proofs.Common.{arith, get_or, drop, [], ◌∷◌, refl}
use Rattle.bcder_tree.proofs.Slices.{first1}
use Rattle.bcder_tree.proofs.Lengths.{no_length}
use Rattle.bcder_tree.proofs.length.Length.read.Goals as goal

pub returns-then-first-lt128-clause-found : goal.returns-then-first-lt128-clause-found
returns-then-first-lt128-clause-found c =
    let s = c.args.octets.now in
    record { text = get_or s 0 0 ∷ []; rest = drop 1 s; is = (omega arith, refl); whole = first1 s (omega arith); long = refl }

pub returns-in-None-clause-none : goal.returns-in-None-clause-none
returns-in-None-clause-none c = no_length c.args.mode c.args.octets.now (omega arith) c.if-first.false c.in-None.ensures.none
