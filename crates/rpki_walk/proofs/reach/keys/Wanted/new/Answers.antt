use Rattle.std.proofs.Common.{ℕ, List, subst}
use Rattle.std.specs.List.Sorted.{IsPermutation}
use Rattle.rpki_walk.proofs.Halved.{same_keys}
use Rattle.rpki_walk.proofs.reach.keys.Wanted.new.Goals as goal

pub invariant_of-result : goal.invariant_of-result
invariant_of-result c =
    let keys = c.sort_unstable.new.self.items in
    record {
      same = same_keys c.args.uris.now keys (subst (λ (ks : List (List ℕ)). IsPermutation ks keys) c.in_ok-keys.ensures c.sort_unstable.ensures.permutation);
      ascend = c.sort_unstable.ensures.sorted;
    }
