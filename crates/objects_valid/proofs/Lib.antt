pub mod Texts
pub mod Accepting
pub mod IfType
pub mod Processing
pub mod Signing
pub mod Sparing
pub mod Parts
