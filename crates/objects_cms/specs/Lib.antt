pub mod Said
pub mod Invalid
pub mod Slots
pub mod Kept
pub mod Files
pub mod Listing
pub mod Held
pub mod ManifestFields
pub mod Signer
pub mod Frame
pub mod Begun
pub mod Decoded
pub mod Content
pub mod Versions
-- What stands below, for the crates above.
pub use Rattle.objects_payload.specs.bcder_content as bcder_content
pub use Rattle.objects_payload.specs.bcder as bcder
pub use Rattle.objects_payload.specs.bcder_primitive as bcder_primitive
pub use Rattle.objects_payload.specs.bcder_source as bcder_source
pub use Rattle.bcder_tree.specs as bcder_tree
pub use Rattle.objects_payload.specs.certs_basics as certs_basics
pub use Rattle.objects_payload.specs.certs_extension as certs_extension
pub use Rattle.objects_payload.specs as objects_payload
pub use Rattle.certs_key.specs.bcder_octets as bcder_octets
pub use Rattle.certs_cert.specs.certs_key as certs_key
pub use Rattle.certs_cert.specs.certs_x509 as certs_x509
