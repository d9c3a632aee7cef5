pub mod Needed
pub mod Evidence
pub mod Counted
pub mod Climbing
-- What stands below.
pub use Rattle.rpki_rules.specs.resources_chain as resources_chain
pub use Rattle.rpki_rules.specs.resources as resources
