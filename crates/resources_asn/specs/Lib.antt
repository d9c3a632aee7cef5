pub mod Ranges
pub mod Blocks
pub mod Counted
pub mod Left
pub mod BlockEncodings
pub mod Meanings
pub mod BlockTexts
pub mod Reading
pub mod Written
pub mod Numbers
pub mod Listed
pub mod Chosen
pub mod Texts
pub mod Encodings
pub mod Origins
-- What stands below, for the crates above.
pub use Rattle.resources_ip_prefix.specs.bcder_content as bcder_content
pub use Rattle.resources_ip_prefix.specs.bcder_primitive as bcder_primitive
pub use Rattle.resources_ip_prefix.specs.bcder_source as bcder_source
pub use Rattle.resources_ip_prefix.specs.bcder_tree as bcder_tree
pub use Rattle.resources_ip_prefix.specs.bcder_values as bcder_values
pub use Rattle.resources_chain.specs as resources_chain
pub use Rattle.resources_ip_prefix.specs as resources_ip_prefix
pub use Rattle.resources_ip_prefix.specs.bcder as bcder
