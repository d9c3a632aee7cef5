pub mod Own
-- What stands below.
pub use Rattle.rpki_validator.specs.certs_basics as certs_basics
pub use Rattle.rpki_validator.specs.rpki_rules as rpki_rules
pub use Rattle.rpki_validator.specs as rpki_validator
