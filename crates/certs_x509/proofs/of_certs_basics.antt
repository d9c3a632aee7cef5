-- Lemmas of certs_basics, for the crates above.
pub use Rattle.certs_basics.proofs.Meanings
pub use Rattle.certs_basics.proofs.Values
pub use Rattle.certs_basics.proofs.Moments
pub use Rattle.certs_basics.proofs.UriTexts
