pub mod Reading
mod Beginning
pub mod DigestWords
mod Agree
pub mod Numbered
mod Written
pub mod OneBundle
pub mod Texts
pub mod Orders
pub mod Objects
pub use Rattle.certs_basics.proofs.UriLaws
pub use Rattle.certs_basics.proofs.UriTexts
pub use Rattle.certs_basics.proofs.Calendar
pub use Rattle.certs_basics.proofs.Moments
pub mod of_bcder
pub mod of_bcder_content
pub mod of_bcder_tree
pub mod of_bcder_values
pub mod of_certs_basics
