-- A test of whether two blocks have the same addresses, for `==`.
use Rattle.std.specs.Prelude.{Bool, [], ◌∷◌, refl}
use Rattle.std.specs.Cmp.{IsEquivalence}
use Rattle.resources_ip_block.specs.resources_chain.Same.{runs_eq, runs_eq_equiv}
use Rattle.resources_ip_block.specs.declared.block.IpBlock.{IpBlock}
use Rattle.resources_ip_block.specs.Block.{run_of_block}

abbrev pub block_eq : IpBlock → IpBlock → Bool
block_eq a b = runs_eq (run_of_block a ∷ []) (run_of_block b ∷ [])

pub block_eq_equiv : IsEquivalence block_eq
block_eq_equiv = record {
  refl = λ a. runs_eq_equiv.refl (run_of_block a ∷ []);
  symm = λ a b. runs_eq_equiv.symm (run_of_block a ∷ []) (run_of_block b ∷ []);
  congr = λ a b c. runs_eq_equiv.congr (run_of_block a ∷ []) (run_of_block b ∷ [])
      (run_of_block c ∷ []);
}
