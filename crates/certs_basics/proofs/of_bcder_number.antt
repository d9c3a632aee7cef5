-- Lemmas of bcder_number, for the crates above.
pub use Rattle.bcder.proofs.of_bcder_number.Writings
