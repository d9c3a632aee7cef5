pub mod FamilyLemmas
pub mod Joined
pub mod Changing
pub mod Texts
pub mod of_resources_chain
