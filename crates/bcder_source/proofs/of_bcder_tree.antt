-- Lemmas of bcder_tree, for the crates above.
pub use Rattle.bcder_tree.proofs.Canonical
pub use Rattle.bcder_tree.proofs.Digits
pub use Rattle.bcder_tree.proofs.Fronts
pub use Rattle.bcder_tree.proofs.Modes
pub use Rattle.bcder_tree.proofs.Parts
pub use Rattle.bcder_tree.proofs.Slices
pub use Rattle.bcder_tree.proofs.Trees
pub use Rattle.bcder_tree.proofs.Unique
