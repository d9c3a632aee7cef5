-- Lemmas of bcder_content, for the crates above.
pub use Rattle.certs_extension.proofs.of_bcder_content.Choices
pub use Rattle.certs_extension.proofs.of_bcder_content.Choosing
pub use Rattle.certs_extension.proofs.of_bcder_content.Decoding
pub use Rattle.certs_extension.proofs.of_bcder_content.Forests
pub use Rattle.certs_extension.proofs.of_bcder_content.Fronts
pub use Rattle.certs_extension.proofs.of_bcder_content.Gathering
pub use Rattle.certs_extension.proofs.of_bcder_content.InMode
pub use Rattle.resources_asn.proofs.of_bcder_content.Inside
pub use Rattle.certs_extension.proofs.of_bcder_content.Keeping
pub use Rattle.resources_asn.proofs.of_bcder_content.Kept
pub use Rattle.certs_extension.proofs.of_bcder_content.Meaning
pub use Rattle.certs_extension.proofs.of_bcder_content.Modes
pub use Rattle.certs_extension.proofs.of_bcder_content.Simple
pub use Rattle.certs_extension.proofs.of_bcder_content.Taking
pub use Rattle.certs_extension.proofs.of_bcder_content.Took
pub use Rattle.certs_extension.proofs.of_bcder_content.Unique
pub use Rattle.certs_extension.proofs.of_bcder_content.Within
