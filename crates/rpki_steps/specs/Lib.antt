pub mod PointFiles
pub mod Parts
pub mod PointOctets
pub mod Anchors
pub mod Claims
pub mod Files
pub mod Objects
pub mod Points
pub mod Holders
pub mod Below
pub mod Anchored
pub mod Accepted
pub mod NamedAnchors
-- What stands below, for the crates above.
pub use Rattle.rpki_standing.specs.certs_key as certs_key
pub use Rattle.rpki_standing.specs.certs_extension as certs_extension
pub use Rattle.rpki_standing.specs.certs_basics as certs_basics
pub use Rattle.certs_verify.specs as certs_verify
pub use Rattle.rpki_rules.specs.rpki_bundle as rpki_bundle
pub use Rattle.rpki_rules.specs as rpki_rules
pub use Rattle.certs_verify.specs.certs_x509 as certs_x509
pub use Rattle.rpki_walk.specs.resources_chain as resources_chain
pub use Rattle.rpki_walk.specs.resources as resources
pub use Rattle.rpki_walk.specs as rpki_walk
pub use Rattle.rpki_judge.specs as rpki_judge
pub use Rattle.rpki_standing.specs as rpki_standing
