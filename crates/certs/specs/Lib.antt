pub mod Outputs
pub mod Values
pub mod Resources
pub mod Fields
pub mod Tbs
pub mod Signing
pub mod Laws
-- What stands below, for the crates above.
pub use Rattle.certs_extension.specs.bcder as bcder
pub use Rattle.certs_extension.specs.bcder_content as bcder_content
pub use Rattle.certs_extension.specs.bcder_octets as bcder_octets
pub use Rattle.certs_extension.specs.bcder_primitive as bcder_primitive
pub use Rattle.certs_extension.specs.bcder_tree as bcder_tree
pub use Rattle.certs_extension.specs.bcder_values as bcder_values
pub use Rattle.certs_extension.specs.certs_basics as certs_basics
pub use Rattle.certs_cert.specs as certs_cert
pub use Rattle.certs_crl.specs as certs_crl
pub use Rattle.certs_extension.specs as certs_extension
pub use Rattle.certs_key.specs as certs_key
pub use Rattle.certs_verify.specs as certs_verify
pub use Rattle.certs_x509.specs as certs_x509
pub use Rattle.certs_extension.specs.resources_as as resources_as
pub use Rattle.certs_extension.specs.resources_chain as resources_chain
pub use Rattle.certs_extension.specs.resources_ip as resources_ip
pub use Rattle.resources_ip.specs.resources_ip_prefix as resources_ip_prefix
