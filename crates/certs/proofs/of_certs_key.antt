-- Lemmas of certs_key, for the crates above.
pub use Rattle.certs_key.proofs.Padded
pub use Rattle.certs_key.proofs.Written
