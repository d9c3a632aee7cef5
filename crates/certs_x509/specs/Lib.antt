pub mod Entries
pub mod Written
pub mod Listed
pub mod Listing
pub mod EntryForms
pub mod Signed
pub mod Captured
pub mod Took
pub mod Causes
-- What stands below, for the crates above.
pub use Rattle.certs_extension.specs.bcder as bcder
pub use Rattle.certs_extension.specs.bcder_content as bcder_content
pub use Rattle.certs_extension.specs.bcder_number as bcder_number
pub use Rattle.certs_extension.specs.bcder_octets as bcder_octets
pub use Rattle.certs_extension.specs.bcder_primitive as bcder_primitive
pub use Rattle.certs_key.specs.bcder_source as bcder_source
pub use Rattle.certs_extension.specs.bcder_tree as bcder_tree
pub use Rattle.certs_key.specs.bcder_values as bcder_values
pub use Rattle.certs_extension.specs.certs_basics as certs_basics
pub use Rattle.certs_extension.specs as certs_extension
pub use Rattle.certs_key.specs as certs_key
pub use Rattle.certs_key.specs.certs_name as certs_name
pub use Rattle.certs_extension.specs.resources_chain as resources_chain
