pub mod Joined
mod Listed
mod Octets
mod Sequence
mod Whole
mod Spelled
pub mod of_bcder_content
pub mod of_bcder_tree
pub mod of_certs_key
pub mod of_certs_x509
