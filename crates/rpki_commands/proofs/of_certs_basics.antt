-- Lemmas of certs_basics, for the crates above.
pub use Rattle.rpki_validator.proofs.of_certs_basics.Moments
