-- Lemmas of bcder, for the crates above.
pub use Rattle.bcder.proofs.Read
