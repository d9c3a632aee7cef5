-- Lemmas of bcder_tree, for the crates above.
pub use Rattle.objects_payload.proofs.of_bcder_tree.Unique
