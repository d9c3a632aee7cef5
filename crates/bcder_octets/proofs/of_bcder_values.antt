-- Lemmas of bcder_values, for the crates above.
pub use Rattle.bcder_values.proofs.KeptRead
pub use Rattle.bcder_values.proofs.Lent
pub use Rattle.bcder_values.proofs.Returning
