-- Lemmas of certs_basics, for the crates above.
pub use Rattle.certs_extension.proofs.of_certs_basics.Meanings
pub use Rattle.certs_extension.proofs.of_certs_basics.Moments
pub use Rattle.certs_extension.proofs.of_certs_basics.UriTexts
pub use Rattle.certs_extension.proofs.of_certs_basics.Values
