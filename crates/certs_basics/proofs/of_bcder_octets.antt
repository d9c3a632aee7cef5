-- Lemmas of bcder_octets, for the crates above.
pub use Rattle.bcder.proofs.of_bcder_octets.BitReadings
pub use Rattle.bcder.proofs.of_bcder_octets.BitWritings
pub use Rattle.bcder.proofs.of_bcder_octets.Meaning
pub use Rattle.bcder.proofs.of_bcder_octets.Strings
pub use Rattle.bcder.proofs.of_bcder_octets.Wanting
pub use Rattle.bcder.proofs.of_bcder_octets.Written
