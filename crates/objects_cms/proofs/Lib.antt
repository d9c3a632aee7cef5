pub mod AttributesTold
mod Finished
pub mod AttributeOnes
pub mod Single
pub mod SlotLaws
pub mod Wholes
pub mod Entries
pub mod Lists
pub mod Stepping
mod Joined
mod Beginning
mod NoMemory
pub mod Calls
pub mod Ones
pub mod Spelled
pub mod Whole
pub mod Messages
pub mod of_bcder
pub mod of_bcder_content
pub mod of_certs_basics
pub mod of_certs_extension
pub mod of_objects_payload
