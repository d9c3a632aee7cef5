-- Lemmas of bcder_tree, for the crates above.
pub use Rattle.bcder.proofs.of_bcder_tree.Trees
