-- Lemmas of bcder_tree, for the crates above.
pub use Rattle.bcder_source.proofs.of_bcder_tree.Digits
pub use Rattle.bcder_source.proofs.of_bcder_tree.Slices
