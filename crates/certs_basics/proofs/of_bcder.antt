-- Lemmas of bcder, for the crates above.
pub use Rattle.bcder.proofs.Ascii
pub use Rattle.bcder.proofs.Read
pub use Rattle.bcder.proofs.Texts
