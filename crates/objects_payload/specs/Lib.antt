pub mod Lines
pub mod Uris
pub mod Faults
pub mod Counts
pub mod Tals
pub mod Identifiers
pub mod SignedAttributes
pub mod ObjectText
pub mod Contents
pub mod Manifests
pub mod Roas
pub mod Aspas
pub mod Locators
pub mod Lists
pub mod Orders
pub mod Fields
pub mod Spelled
pub mod Listing
pub mod Decoded
pub mod Resources
pub mod Addresses
pub mod Families
pub mod RoaContents
pub mod Friendly
pub mod Covered
pub mod Forms
pub mod Relaxed
pub mod RelaxedLaws
-- What stands below, for the crates above.
pub use Rattle.certs_extension.specs.bcder as bcder
pub use Rattle.certs_extension.specs.bcder_content as bcder_content
pub use Rattle.certs_extension.specs.bcder_octets as bcder_octets
pub use Rattle.certs_extension.specs.bcder_primitive as bcder_primitive
pub use Rattle.certs_extension.specs.bcder_source as bcder_source
pub use Rattle.certs_extension.specs.bcder_tree as bcder_tree
pub use Rattle.certs_extension.specs.certs_basics as certs_basics
pub use Rattle.certs_extension.specs as certs_extension
pub use Rattle.resources_asn.specs as resources_asn
pub use Rattle.certs_extension.specs.resources_chain as resources_chain
pub use Rattle.resources_ip_prefix.specs as resources_ip_prefix
