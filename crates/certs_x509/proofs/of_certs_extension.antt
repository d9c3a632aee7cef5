-- Lemmas of certs_extension, for the crates above.
pub use Rattle.certs_extension.proofs.Values
pub use Rattle.certs_extension.proofs.Certs
pub use Rattle.certs_extension.proofs.Roles
