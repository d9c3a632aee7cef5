pub mod Fresh
pub mod Reading
pub mod Whole
pub mod Written
-- What stands below, for the crates above.
pub use Rattle.certs_extension.specs.bcder_octets as bcder_octets
pub use Rattle.certs_extension.specs.bcder_content as bcder_content
pub use Rattle.certs_x509.specs.bcder_source as bcder_source
pub use Rattle.certs_extension.specs.bcder_tree as bcder_tree
pub use Rattle.certs_extension.specs.certs_basics as certs_basics
pub use Rattle.certs_x509.specs.certs_key as certs_key
pub use Rattle.certs_x509.specs as certs_x509
pub use Rattle.certs_extension.specs as certs_extension
pub use Rattle.certs_extension.specs.resources_chain as resources_chain
