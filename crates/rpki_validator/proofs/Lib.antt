mod Pieces
pub mod Options
mod Forging
mod Judging
mod Printing
mod Reading
mod Relaxing
pub mod of_bcder_tree
pub mod of_certs_basics
pub mod of_rpki_bundle
