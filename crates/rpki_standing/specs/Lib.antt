pub mod Manifests
pub mod Standing
pub mod Places
pub mod PointFaults
pub mod Crls
pub mod Tests
pub mod Lookups
pub mod Names
pub mod Views
pub mod Published
pub mod Texts
pub mod Readers
-- What stands below, for the crates above.
pub use Rattle.objects_valid.specs as objects_valid
pub use Rattle.rpki_rules.specs as rpki_rules
pub use Rattle.rpki_rules.specs.certs_basics as certs_basics
pub use Rattle.rpki_rules.specs.resources_chain as resources_chain
pub use Rattle.rpki_rules.specs.rpki_bundle as rpki_bundle
pub use Rattle.certs_cert.specs.bcder_source as bcder_source
pub use Rattle.certs_verify.specs.certs_key as certs_key
pub use Rattle.certs_verify.specs as certs_verify
pub use Rattle.rpki_rules.specs.certs_extension as certs_extension
pub use Rattle.objects_payload.specs as objects_payload
