-- Lemmas of bcder_octets, for the crates above.
pub use Rattle.certs_extension.proofs.of_bcder_octets.BitReadings
