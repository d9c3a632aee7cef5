-- Lemmas of bcder_tree, for the crates above.
pub use Rattle.rpki_validator.proofs.of_bcder_tree.Unique
