-- Lemmas of bcder_values, for the crates above.
pub use Rattle.certs_name.proofs.of_bcder_values.KeptRead
pub use Rattle.certs_name.proofs.of_bcder_values.Lent
pub use Rattle.certs_name.proofs.of_bcder_values.Returning
