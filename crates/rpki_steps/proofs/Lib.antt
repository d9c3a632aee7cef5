mod Claimed
mod Plain
mod Spelled
mod Unheld
mod Listed
mod RepositoryFiles
mod Found
mod Stands
mod Told
pub mod AnchorLemmas
pub mod CertFiles
pub mod ClaimLemmas
pub mod FileLemmas
pub mod NameLemmas
pub mod PayloadFiles
pub mod PointLemmas
pub mod WholeLemmas
pub mod AcceptedClaims
pub mod FoundBelow
pub mod FoundAnchor
pub mod Refusing
mod Passing
mod Named
mod Looked
pub mod of_rpki_rules
