-- Lemmas of certs_x509, for the crates above.
pub use Rattle.certs_x509.proofs.Octets
