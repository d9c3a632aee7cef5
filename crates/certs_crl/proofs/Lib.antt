mod Cached
mod Pairs
mod Listed
mod Whole
mod Spelled
mod Octets
mod Stored
mod Again
mod Writing
mod Alone
mod Signed
mod Gathered
pub mod of_bcder_content
