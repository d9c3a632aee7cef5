-- Lemmas of bcder_content, for the crates above.
pub use Rattle.certs_x509.proofs.of_bcder_content.Choices
pub use Rattle.certs_x509.proofs.of_bcder_content.Decoding
pub use Rattle.certs_x509.proofs.of_bcder_content.Forests
pub use Rattle.certs_x509.proofs.of_bcder_content.Fronts
pub use Rattle.certs_x509.proofs.of_bcder_content.InMode
pub use Rattle.certs_x509.proofs.of_bcder_content.Keeping
pub use Rattle.certs_x509.proofs.of_bcder_content.Taking
pub use Rattle.certs_x509.proofs.of_bcder_content.Took
pub use Rattle.certs_x509.proofs.of_bcder_content.Unique
