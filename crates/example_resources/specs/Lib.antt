-- What stands below.
pub use Rattle.resources.specs.resources_chain as resources_chain
pub use Rattle.resources.specs as resources
