-- Lemmas of bcder_values, for the crates above.
pub use Rattle.bcder_octets.proofs.of_bcder_values.KeptRead
pub use Rattle.bcder_octets.proofs.of_bcder_values.Lent
pub use Rattle.bcder_octets.proofs.of_bcder_values.Returning
