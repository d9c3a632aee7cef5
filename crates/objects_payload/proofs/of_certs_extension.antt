-- Lemmas of certs_extension, for the crates above.
pub use Rattle.certs_extension.proofs.Certs
pub use Rattle.certs_extension.proofs.Roles
pub use Rattle.certs_extension.proofs.Values
