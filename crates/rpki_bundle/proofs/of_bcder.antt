-- Lemmas of bcder, for the crates above.
pub use Rattle.certs_key.proofs.of_bcder.Ascii
