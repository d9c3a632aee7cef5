pub mod Laws
pub mod Frames
pub mod Wraps
pub mod Plains
pub mod Choices
pub mod Captures
pub mod Gathered
pub mod Returns
pub mod Lists
pub mod Writable
pub mod Forms
pub mod OptionalForms
pub mod ListForms
pub mod ChoiceForms
pub mod KeptForms
-- What stands below, for the crates above.
pub use Rattle.bcder_content.specs as bcder_content
pub use Rattle.bcder_content.specs.bcder_primitive as bcder_primitive
pub use Rattle.bcder_content.specs.bcder_source as bcder_source
pub use Rattle.bcder_content.specs.bcder_tree as bcder_tree
