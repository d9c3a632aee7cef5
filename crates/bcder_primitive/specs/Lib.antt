pub mod Writing
pub mod Headers
pub mod Encoded
pub mod Contents
pub mod Integers
pub mod Simple
pub mod Plain
pub mod Sliced
pub mod Values
-- What stands below, for the crates above.
pub use Rattle.bcder_source.specs.bcder_tree as bcder_tree
