pub mod LineTexts
pub mod UriLines
pub mod Letters
pub mod Keys
pub mod Whole
pub mod Parting
pub mod Halves
pub mod Named
pub mod Objects
pub mod Locators
pub mod Orders
pub mod Runs
pub mod Contents
pub mod Splits
pub mod Resources
pub mod AddressLemmas
pub mod FamilyLemmas
pub mod ContentLemmas
pub mod Steps
mod RelaxedForms
mod RelaxedValues
mod RelaxedCerts
pub mod RelaxedObjects
pub mod RelaxedInspected
pub mod of_bcder
pub mod of_bcder_content
pub mod of_bcder_octets
pub mod of_bcder_source
pub mod of_bcder_tree
pub mod of_certs_basics
pub mod of_certs_extension
