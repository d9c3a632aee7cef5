pub mod Integers
pub mod Contents
pub mod Conversions
pub mod Hashed
-- What stands below, for the crates above.
pub use Rattle.bcder_values.specs.bcder_content as bcder_content
pub use Rattle.bcder_values.specs.bcder_primitive as bcder_primitive
pub use Rattle.bcder_values.specs.bcder_source as bcder_source
pub use Rattle.bcder_values.specs.bcder_tree as bcder_tree
