-- Lemmas of bcder_values, for the crates above.
pub use Rattle.certs_basics.proofs.of_bcder_values.Returning
pub use Rattle.certs_basics.proofs.of_bcder_values.KeptRead
pub use Rattle.certs_basics.proofs.of_bcder_values.Lent
