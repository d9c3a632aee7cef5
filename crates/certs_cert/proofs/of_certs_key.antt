-- Lemmas of certs_key, for the crates above.
pub use Rattle.certs_extension.proofs.of_certs_key.Identifying
pub use Rattle.certs_x509.proofs.of_certs_key.Meanings
