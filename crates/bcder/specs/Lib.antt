pub mod Subidentifiers
pub mod Identifiers
pub mod Components
pub mod Printed
pub mod OidTexts
pub mod Texts
pub mod Sets
pub mod StringLaws
pub mod Errors
pub mod Restricted
pub mod Kinds
-- What stands below, for the crates above.
pub use Rattle.bcder_octets.specs.bcder_content as bcder_content
pub use Rattle.bcder_number.specs as bcder_number
pub use Rattle.bcder_octets.specs as bcder_octets
pub use Rattle.bcder_octets.specs.bcder_primitive as bcder_primitive
pub use Rattle.bcder_octets.specs.bcder_source as bcder_source
pub use Rattle.bcder_octets.specs.bcder_tree as bcder_tree
pub use Rattle.bcder_octets.specs.bcder_values as bcder_values
