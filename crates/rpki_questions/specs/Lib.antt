pub mod Requests
pub mod Lists
pub mod Chained
pub mod Refused
pub mod Orders
pub mod Judged
pub mod Reached
pub mod Shown
pub mod Told
pub mod Costed
pub mod Answers
pub mod Asking
pub mod Programs
-- What stands below.
pub use Rattle.rpki_validator.specs.certs_basics as certs_basics
