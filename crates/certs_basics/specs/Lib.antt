pub mod Lists
pub mod Identifiers
pub mod HandedIn
pub mod Basics
pub mod Names
pub mod Keys
pub mod Verdicts
pub mod Uris
pub mod Paths
pub mod Made
pub mod Times
pub mod Pairs
pub mod Forms
pub mod Periods
-- What stands below, for the crates above.
pub use Rattle.bcder.specs as bcder
pub use Rattle.bcder.specs.bcder_octets as bcder_octets
pub use Rattle.bcder.specs.bcder_content as bcder_content
pub use Rattle.bcder.specs.bcder_number as bcder_number
pub use Rattle.bcder.specs.bcder_primitive as bcder_primitive
pub use Rattle.bcder.specs.bcder_source as bcder_source
pub use Rattle.bcder.specs.bcder_tree as bcder_tree
pub use Rattle.bcder.specs.bcder_values as bcder_values
