pub mod Resources
pub mod Equal
pub mod Texts
pub mod Laws
pub mod Families
pub mod FamilyTexts
-- What stands below, for the crates above.
pub use Rattle.resources_as.specs as resources_as
pub use Rattle.resources_as.specs.resources_asn as resources_asn
pub use Rattle.resources_as.specs.resources_chain as resources_chain
pub use Rattle.resources_ip.specs as resources_ip
pub use Rattle.resources_ip.specs.resources_ip_block as resources_ip_block
pub use Rattle.resources_as.specs.resources_ip_prefix as resources_ip_prefix
