-- Lemmas of bcder_octets, for the crates above.
pub use Rattle.certs_name.proofs.of_bcder_octets.BitReadings
pub use Rattle.certs_name.proofs.of_bcder_octets.BitWritings
pub use Rattle.certs_name.proofs.of_bcder_octets.Meaning
pub use Rattle.certs_name.proofs.of_bcder_octets.Strings
pub use Rattle.certs_name.proofs.of_bcder_octets.Wanting
