-- Lemmas of bcder_octets, for the crates above.
pub use Rattle.bcder_octets.proofs.BitLists
pub use Rattle.bcder_octets.proofs.BitReadings
pub use Rattle.bcder_octets.proofs.BitWritings
pub use Rattle.bcder_octets.proofs.Cuts
pub use Rattle.bcder_octets.proofs.Meaning
pub use Rattle.bcder_octets.proofs.Strings
pub use Rattle.bcder_octets.proofs.Wanting
pub use Rattle.bcder_octets.proofs.Written
