-- Lemmas of bcder_tree, for the crates above.
pub use Rattle.rpki_bundle.proofs.of_bcder_tree.Unique
