-- Lemmas of bcder_tree, for the crates above.
pub use Rattle.bcder_octets.proofs.of_bcder_tree.Canonical
pub use Rattle.bcder_octets.proofs.of_bcder_tree.Digits
pub use Rattle.bcder_octets.proofs.of_bcder_tree.Fronts
pub use Rattle.bcder_octets.proofs.of_bcder_tree.Trees
pub use Rattle.bcder_octets.proofs.of_bcder_tree.Unique
