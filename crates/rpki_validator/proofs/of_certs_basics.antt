-- Lemmas of certs_basics, for the crates above.
pub use Rattle.rpki_bundle.proofs.of_certs_basics.Moments
