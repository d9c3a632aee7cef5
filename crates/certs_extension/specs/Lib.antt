pub mod Names
pub mod Grammars
pub mod Seen
pub mod Access
pub mod Found
pub mod Extensions
pub mod CertAccess
pub mod Cert
pub mod Kinds
pub mod CertText
pub mod Profiles
pub mod Verified
pub mod CrlText
pub mod Calls
pub mod Spellings
pub mod Raw
pub mod Putting
pub mod Values
pub mod Purposes
pub mod Usages
pub mod Slots
pub mod ExtensionKinds
pub mod Filling
pub mod Refusals
pub mod Finishing
pub mod Needed
-- What stands below, for the crates above.
pub use Rattle.certs_basics.specs.bcder_content as bcder_content
pub use Rattle.certs_basics.specs.bcder as bcder
pub use Rattle.certs_basics.specs.bcder_tree as bcder_tree
pub use Rattle.certs_basics.specs as certs_basics
pub use Rattle.certs_basics.specs.bcder_octets as bcder_octets
pub use Rattle.certs_basics.specs.bcder_number as bcder_number
pub use Rattle.certs_basics.specs.bcder_primitive as bcder_primitive
pub use Rattle.certs_basics.specs.bcder_source as bcder_source
pub use Rattle.resources_as.specs as resources_as
pub use Rattle.resources_as.specs.resources_asn as resources_asn
pub use Rattle.resources_chain.specs as resources_chain
pub use Rattle.resources_ip.specs as resources_ip
pub use Rattle.resources_ip.specs.resources_ip_prefix as resources_ip_prefix
pub use Rattle.certs_key.specs.bcder_values as bcder_values
