-- Blocks that are written, by the runs of each.
use Rattle.std.proofs.Common.{◌≡◌, ℕ, List, [], ◌∷◌, map, refl, ap, subst}
use Rattle.resources_ip.specs.bcder_tree.declared.mode.Mode.{Mode}
use Rattle.resources_ip.specs.bcder_tree.Tree.{Trees}
use Rattle.resources_ip.specs.bcder_primitive.Encoded.{AreBoth, WritesBoth}
use Rattle.resources_ip.specs.bcder_values.Lists.{AreAll, WritesAll}
use Rattle.resources_ip.specs.resources_chain.Sets.{Run}
use Rattle.resources_ip_block.specs.declared.block.IpBlock.{IpBlock}
use Rattle.resources_ip_block.specs.Block.{run_of_block}
use Rattle.resources_ip_block.specs.WrittenBlock.{AreIpBlock, WritesIpBlock}
use Rattle.resources_ip.specs.Written.{AreIpBlocks, WritesIpBlocks}

all_trees : (m : Mode) (xs : List IpBlock) → AreAll (λ b. AreIpBlock m (run_of_block b)) xs ≡ AreIpBlocks m (map run_of_block xs)
all_trees m [] = refl
all_trees m (x ∷ xs) = ap (λ (R : Trees → Type 0). AreBoth (AreIpBlock m (run_of_block x)) R) (all_trees m xs)

all_texts : (m : Mode) (xs : List IpBlock) → WritesAll (λ b. WritesIpBlock m (run_of_block b)) xs ≡ WritesIpBlocks m (map run_of_block xs)
all_texts m [] = refl
all_texts m (x ∷ xs) = ap (λ (R : List ℕ → Type 0). WritesBoth (WritesIpBlock m (run_of_block x)) R) (all_texts m xs)

-- What is so of what is written of blocks is so of that of their runs.
pub of_runs : (m : Mode) (F : (Trees → Type 0) → (List ℕ → Type 0) → Type 0) (xs : List IpBlock) {runs : List Run} → map run_of_block xs ≡ runs
    → F (AreAll (λ b. AreIpBlock m (run_of_block b)) xs) (WritesAll (λ b. WritesIpBlock m (run_of_block b)) xs) → F (AreIpBlocks m runs) (WritesIpBlocks m runs)
of_runs m F xs {runs} e p =
    let q : F (AreIpBlocks m (map run_of_block xs)) (WritesAll (λ b. WritesIpBlock m (run_of_block b)) xs) = subst (λ (T : Trees → Type 0). F T (WritesAll (λ b. WritesIpBlock m (run_of_block b)) xs)) (all_trees m xs) p in
    let r : F (AreIpBlocks m (map run_of_block xs)) (WritesIpBlocks m (map run_of_block xs)) = subst (λ (P : List ℕ → Type 0). F (AreIpBlocks m (map run_of_block xs)) P) (all_texts m xs) q in
    subst (λ (s : List Run). F (AreIpBlocks m s) (WritesIpBlocks m s)) e r
