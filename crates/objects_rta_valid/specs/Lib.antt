pub mod Nodes
pub mod Paths
pub mod Keys
pub mod OnPaths
pub mod Tables
pub mod Runs
pub mod Following
pub mod Kept
pub mod Places
pub mod Apart
pub mod Certs
pub mod Keyed
pub mod Vouched
pub mod Validity
pub mod Answered
-- What stands below, for the crates above.
pub use Rattle.certs_verify.specs as certs_verify
pub use Rattle.certs_verify.specs.certs_basics as certs_basics
pub use Rattle.certs_verify.specs.certs_extension as certs_extension
pub use Rattle.certs_verify.specs.certs_key as certs_key
pub use Rattle.certs_verify.specs.resources_chain as resources_chain
pub use Rattle.objects_rta.specs as objects_rta
pub use Rattle.objects_rta.specs.objects_valid as objects_valid
