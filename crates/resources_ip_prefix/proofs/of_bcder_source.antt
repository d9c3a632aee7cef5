-- Lemmas of bcder_source, for the crates above.
pub use Rattle.bcder.proofs.of_bcder_source.Moves
