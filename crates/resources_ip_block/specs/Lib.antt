pub mod Range
pub mod Block
pub mod BlockEq
pub mod BlockText
pub mod ReadTexts
pub mod Cover
pub mod BlockEncodings
pub mod Meanings
pub mod Written
pub mod WrittenBlock
pub use Rattle.resources_ip_prefix.specs.Address
pub use Rattle.resources_ip_prefix.specs.Encodings
pub use Rattle.resources_ip_prefix.specs.Family
pub use Rattle.resources_ip_prefix.specs.Prefix
pub use Rattle.resources_ip_prefix.specs.Prefixes
pub use Rattle.resources_ip_prefix.specs.Text
pub use Rattle.resources_ip_prefix.specs.Whole
pub use Rattle.resources_ip_prefix.specs.Wide
-- What stands below, for the crates above.
pub use Rattle.resources_ip_prefix.specs.bcder_octets as bcder_octets
pub use Rattle.resources_ip_prefix.specs.bcder_content as bcder_content
pub use Rattle.resources_ip_prefix.specs.bcder_primitive as bcder_primitive
pub use Rattle.resources_ip_prefix.specs.bcder_source as bcder_source
pub use Rattle.resources_ip_prefix.specs.bcder_tree as bcder_tree
pub use Rattle.resources_ip_prefix.specs.bcder_values as bcder_values
pub use Rattle.resources_ip_prefix.specs as resources_ip_prefix
pub use Rattle.resources_ip_prefix.specs.resources_chain as resources_chain
