-- Lemmas of certs_basics, for the crates above.
pub use Rattle.certs_name.proofs.of_certs_basics.Values
