pub mod Tallies
-- What stands below.
pub use Rattle.bcder.specs.bcder_content as bcder_content
pub use Rattle.bcder.specs.bcder_tree as bcder_tree
pub use Rattle.bcder.specs.bcder_values as bcder_values
