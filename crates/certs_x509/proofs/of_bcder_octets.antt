-- Lemmas of bcder_octets, for the crates above.
pub use Rattle.bcder.proofs.of_bcder_octets.BitReadings
