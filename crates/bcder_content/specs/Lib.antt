pub use Rattle.bcder_primitive.specs.Plain
pub use Rattle.bcder_primitive.specs.Sliced
pub use Rattle.bcder_primitive.specs.Values
pub mod Openings
pub mod Nodes
pub mod SkipLevels
pub mod SkipValues
pub mod Contents
pub mod Here
pub mod Ahead
pub mod Exact
pub mod Grammar
pub mod ClosureReads
pub mod Stops
pub mod Kept
pub mod Captures
pub mod Either
pub mod Skips
pub mod Memory
pub mod Perhaps
pub mod Tagged
pub mod InMode
pub mod Words
pub mod Texts
-- What stands below, for the crates above.
pub use Rattle.bcder_primitive.specs as bcder_primitive
pub use Rattle.bcder_source.specs as bcder_source
pub use Rattle.bcder_source.specs.bcder_tree as bcder_tree
