pub mod OneRsync
pub mod Descriptions
mod Adding
pub mod Ones
pub mod Values
pub mod Certs
pub mod Roles
mod Spellings
pub mod Oids
mod AddLaws
mod Filling
mod Finished
mod Lists
mod Several
mod SlotLaws
pub mod Whole
pub mod of_bcder
pub mod of_bcder_content
pub mod of_bcder_octets
pub mod of_bcder_tree
pub mod of_bcder_values
pub mod of_certs_basics
pub mod of_certs_key
