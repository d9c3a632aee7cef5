-- Lemmas of certs_basics, for the crates above.
pub use Rattle.certs_basics.proofs.Values
