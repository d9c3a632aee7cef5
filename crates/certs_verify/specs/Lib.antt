pub mod TestAnswers
pub mod Answers
pub mod Holders
pub mod Validated
pub mod Words
-- What stands below, for the crates above.
pub use Rattle.certs_cert.specs.certs_basics as certs_basics
pub use Rattle.certs_cert.specs.certs_key as certs_key
pub use Rattle.certs_cert.specs.resources_chain as resources_chain
pub use Rattle.certs_cert.specs.certs_extension as certs_extension
pub use Rattle.certs_x509.specs as certs_x509
