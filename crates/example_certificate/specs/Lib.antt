pub mod Shown
-- What stands below.
pub use Rattle.certs.specs.certs_basics as certs_basics
pub use Rattle.certs.specs.resources_chain as resources_chain
pub use Rattle.certs.specs.resources_ip as resources_ip
pub use Rattle.certs.specs.resources_ip_prefix as resources_ip_prefix
