-- Lemmas of bcder, for the crates above.
pub use Rattle.certs_extension.proofs.of_bcder.Read
