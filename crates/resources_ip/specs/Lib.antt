pub mod Blocks
pub mod WholeSets
pub mod Choices
pub mod Shown
pub mod Texts
pub mod Encodings
pub mod Meanings
pub mod Reading
pub mod Written
pub mod WrittenFamilies
pub use Rattle.resources_ip_block.specs.resources_ip_prefix.Address
pub use Rattle.resources_ip_block.specs.Block
pub use Rattle.resources_ip_block.specs.Cover
pub use Rattle.resources_ip_block.specs.resources_ip_prefix.Family
pub use Rattle.resources_ip_block.specs.resources_ip_prefix.Prefix
pub use Rattle.resources_ip_block.specs.resources_ip_prefix.Prefixes
pub use Rattle.resources_ip_block.specs.Range
pub use Rattle.resources_ip_block.specs.resources_ip_prefix.Text
pub use Rattle.resources_ip_block.specs.resources_ip_prefix.Whole
pub use Rattle.resources_ip_block.specs.resources_ip_prefix.Wide
-- What stands below, for the crates above.
pub use Rattle.resources_ip_block.specs.bcder_content as bcder_content
pub use Rattle.resources_ip_block.specs.bcder_octets as bcder_octets
pub use Rattle.resources_ip_block.specs.bcder_primitive as bcder_primitive
pub use Rattle.resources_ip_block.specs.bcder_source as bcder_source
pub use Rattle.resources_ip_block.specs.bcder_tree as bcder_tree
pub use Rattle.resources_ip_block.specs.bcder_values as bcder_values
pub use Rattle.resources_ip_block.specs.resources_chain as resources_chain
pub use Rattle.resources_ip_block.specs as resources_ip_block
pub use Rattle.resources_ip_block.specs.resources_ip_prefix as resources_ip_prefix
