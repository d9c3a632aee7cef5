-- Lemmas of bcder_tree, for the crates above.
pub use Rattle.bcder_source.proofs.of_bcder_tree.Canonical
pub use Rattle.bcder_source.proofs.of_bcder_tree.Fronts
pub use Rattle.bcder_source.proofs.of_bcder_tree.Modes
pub use Rattle.bcder_source.proofs.of_bcder_tree.Parts
pub use Rattle.bcder_source.proofs.of_bcder_tree.Slices
pub use Rattle.bcder_source.proofs.of_bcder_tree.Trees
pub use Rattle.bcder_source.proofs.of_bcder_tree.Unique
pub use Rattle.bcder_primitive.proofs.of_bcder_tree.Digits
