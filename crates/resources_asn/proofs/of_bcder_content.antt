-- Lemmas of bcder_content, for the crates above.
pub use Rattle.resources_ip_prefix.proofs.of_bcder_content.Choices
pub use Rattle.resources_ip_prefix.proofs.of_bcder_content.Choosing
pub use Rattle.resources_ip_prefix.proofs.of_bcder_content.Decoding
pub use Rattle.resources_ip_prefix.proofs.of_bcder_content.Forests
pub use Rattle.resources_ip_prefix.proofs.of_bcder_content.Gathering
pub use Rattle.resources_ip_prefix.proofs.of_bcder_content.InMode
pub use Rattle.resources_ip_prefix.proofs.of_bcder_content.Inside
pub use Rattle.resources_ip_prefix.proofs.of_bcder_content.Kept
pub use Rattle.resources_ip_prefix.proofs.of_bcder_content.Perhaps
pub use Rattle.resources_ip_prefix.proofs.of_bcder_content.Simple
pub use Rattle.resources_ip_prefix.proofs.of_bcder_content.Taking
pub use Rattle.resources_ip_prefix.proofs.of_bcder_content.Took
pub use Rattle.resources_ip_prefix.proofs.of_bcder_content.Unique
pub use Rattle.resources_ip_prefix.proofs.of_bcder_content.Within
