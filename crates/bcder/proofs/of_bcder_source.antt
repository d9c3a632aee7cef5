-- Lemmas of bcder_source, for the crates above.
pub use Rattle.bcder_octets.proofs.of_bcder_source.Moves
