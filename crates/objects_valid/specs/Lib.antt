pub mod Kinds
pub mod Accepted
pub mod Content
pub mod IfType
pub mod Processed
pub mod Together
pub mod Stated
pub mod Reading
-- What stands below, for the crates above.
pub use Rattle.objects_cms.specs as objects_cms
pub use Rattle.objects_cms.specs.objects_payload as objects_payload
pub use Rattle.objects_cms.specs.certs_extension as certs_extension
pub use Rattle.certs_verify.specs.certs_basics as certs_basics
pub use Rattle.certs_verify.specs.certs_x509 as certs_x509
pub use Rattle.certs_verify.specs.certs_key as certs_key
pub use Rattle.certs_verify.specs.resources_chain as resources_chain
