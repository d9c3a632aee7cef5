-- Blocks that are written, by the runs of each.
use Rattle.std.proofs.Common.{◌≡◌, ℕ, List, [], ◌∷◌, map, refl, ap, subst}
use Rattle.resources_as.specs.bcder_tree.declared.mode.Mode.{Mode}
use Rattle.resources_as.specs.bcder_tree.Tree.{Trees}
use Rattle.resources_as.specs.bcder_primitive.Encoded.{AreBoth, WritesBoth}
use Rattle.resources_as.specs.bcder_values.Lists.{AreAll, WritesAll}
use Rattle.resources_as.specs.resources_chain.Sets.{Run}
use Rattle.resources_asn.specs.Blocks.{as_run}
use Rattle.resources_asn.specs.declared.as_block.block.AsBlock.{AsBlock}
use Rattle.resources_asn.specs.Written.{AreAsBlock, WritesAsBlock}
use Rattle.resources_as.specs.Written.{AreAsBlocks, WritesAsBlocks}

all_trees : (xs : List AsBlock) → AreAll (λ b. AreAsBlock (as_run b)) xs ≡ AreAsBlocks (map as_run xs)
all_trees [] = refl
all_trees (x ∷ xs) = ap (λ (R : Trees → Type 0). AreBoth (AreAsBlock (as_run x)) R) (all_trees xs)

all_texts : (m : Mode) (xs : List AsBlock) → WritesAll (λ b. WritesAsBlock m (as_run b)) xs ≡ WritesAsBlocks m (map as_run xs)
all_texts m [] = refl
all_texts m (x ∷ xs) = ap (λ (R : List ℕ → Type 0). WritesBoth (WritesAsBlock m (as_run x)) R) (all_texts m xs)

-- What is so of what is written of blocks is so of that of their runs.
pub of_runs : (m : Mode) (F : (Trees → Type 0) → (List ℕ → Type 0) → Type 0) (xs : List AsBlock) {runs : List Run} → map as_run xs ≡ runs
    → F (AreAll (λ b. AreAsBlock (as_run b)) xs) (WritesAll (λ b. WritesAsBlock m (as_run b)) xs) → F (AreAsBlocks runs) (WritesAsBlocks m runs)
of_runs m F xs {runs} e p =
    let q : F (AreAsBlocks (map as_run xs)) (WritesAll (λ b. WritesAsBlock m (as_run b)) xs) = subst (λ (T : Trees → Type 0). F T (WritesAll (λ b. WritesAsBlock m (as_run b)) xs)) (all_trees xs) p in
    let r : F (AreAsBlocks (map as_run xs)) (WritesAsBlocks m (map as_run xs)) = subst (λ (P : List ℕ → Type 0). F (AreAsBlocks (map as_run xs)) P) (all_texts m xs) q in
    subst (λ (s : List Run). F (AreAsBlocks s) (WritesAsBlocks m s)) e r
