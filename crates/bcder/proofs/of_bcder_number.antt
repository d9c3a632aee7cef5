-- Lemmas of bcder_number, for the crates above.
pub use Rattle.bcder_number.proofs.Writings
