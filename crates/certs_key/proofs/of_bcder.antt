-- Lemmas of bcder, for the crates above.
pub use Rattle.certs_name.proofs.of_bcder.Ascii
pub use Rattle.certs_name.proofs.of_bcder.Read
