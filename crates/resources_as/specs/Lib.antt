pub mod Identifiers
pub mod Choices
pub mod Encodings
pub mod Meanings
pub mod Texts
pub mod Written
-- What stands below, for the crates above.
pub use Rattle.resources_asn.specs.bcder as bcder
pub use Rattle.resources_asn.specs.bcder_content as bcder_content
pub use Rattle.resources_asn.specs.bcder_primitive as bcder_primitive
pub use Rattle.resources_asn.specs.bcder_source as bcder_source
pub use Rattle.resources_asn.specs.bcder_tree as bcder_tree
pub use Rattle.resources_asn.specs.bcder_values as bcder_values
pub use Rattle.resources_asn.specs as resources_asn
pub use Rattle.resources_chain.specs as resources_chain
pub use Rattle.resources_asn.specs.resources_ip_prefix as resources_ip_prefix
