-- Lemmas of bcder_source, for the crates above.
pub use Rattle.bcder_values.proofs.of_bcder_source.Moves
