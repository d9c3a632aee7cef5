pub use Rattle.bcder_tree.specs.Tags
pub use Rattle.bcder_tree.specs.TagLimits
pub use Rattle.bcder_tree.specs.Reads
pub use Rattle.bcder_tree.specs.Octets
pub use Rattle.bcder_tree.specs.Tree
pub use Rattle.bcder_tree.specs.Front
pub use Rattle.bcder_tree.specs.Lengths
pub mod Errors
pub mod Views
pub mod Limits
-- What stands below, for the crates above.
pub use Rattle.bcder_tree.specs as bcder_tree
