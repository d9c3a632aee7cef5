-- Lemmas of bcder_content, for the crates above.
pub use Rattle.bcder_values.proofs.of_bcder_content.Inside
pub use Rattle.bcder_values.proofs.of_bcder_content.Memories
