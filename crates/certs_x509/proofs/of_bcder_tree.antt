-- Lemmas of bcder_tree, for the crates above.
pub use Rattle.certs_basics.proofs.of_bcder_tree.Trees
pub use Rattle.bcder.proofs.of_bcder_tree.Unique
