-- Lemmas of bcder_source, for the crates above.
pub use Rattle.bcder_source.proofs.Moves
