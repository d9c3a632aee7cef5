pub mod Reading
pub mod Caches
pub mod Store
pub mod Whole
pub mod Written
pub mod Signing
pub mod Invalid
pub mod Fields
-- What stands below, for the crates above.
pub use Rattle.certs_x509.specs.bcder_source as bcder_source
pub use Rattle.certs_x509.specs.bcder_content as bcder_content
pub use Rattle.certs_x509.specs.bcder_tree as bcder_tree
pub use Rattle.certs_x509.specs.certs_basics as certs_basics
pub use Rattle.certs_cert.specs.certs_extension as certs_extension
