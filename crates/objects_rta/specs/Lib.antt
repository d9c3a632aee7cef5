pub mod Several
pub mod Carried
pub mod MultiText
pub mod MultiFrame
pub mod Attestations
pub mod AttestationParts
-- What stands below, for the crates above.
pub use Rattle.objects_cms.specs.bcder_content as bcder_content
pub use Rattle.objects_cms.specs.bcder_tree as bcder_tree
pub use Rattle.objects_cms.specs.objects_payload as objects_payload
pub use Rattle.objects_cms.specs as objects_cms
pub use Rattle.objects_cms.specs.certs_x509 as certs_x509
pub use Rattle.objects_valid.specs as objects_valid
