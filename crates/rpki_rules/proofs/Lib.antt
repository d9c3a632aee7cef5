pub mod Readings
pub mod Fronts
pub mod Lists
mod Verify
mod LookedUp
mod Tables
mod WitnessNames
mod Climb
pub mod Judging
mod Covered
mod Moved
mod Simple
mod Cross
mod Refusals
mod Untouched
mod OneOutput
mod Outside
mod Versions
pub mod Firsts
pub mod FirstParts
pub mod ReasonTests
mod TextFaults
pub mod LocatorReasons
pub mod NamesAlone
pub mod PointReasons
pub mod FileReasons
pub mod TestLaws
pub mod Diagnoses
mod DiagnosisLaws
pub mod Orders
pub mod Sets
pub mod Groups
pub mod Pieces
pub mod of_bcder_tree
pub mod of_certs_basics
pub mod of_objects_payload
pub mod of_rpki_bundle
