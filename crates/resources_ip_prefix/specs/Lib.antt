pub mod AddrPrefixes
pub mod MaxLens
pub mod Refusals
pub mod Cuts
pub mod PrefixTexts
pub mod MaxLenTexts
pub mod Held
pub mod Orders
pub mod Starts
pub mod All
pub mod Prefixes
pub mod Address
pub mod Prefix
pub mod PrefixLaws
pub mod Text
pub mod Family
pub mod Whole
pub mod Encodings
pub mod Meanings
pub mod ReadTexts
pub mod Written
pub mod Wide
-- What stands below, for the crates above.
pub use Rattle.bcder.specs.bcder_content as bcder_content
pub use Rattle.bcder.specs.bcder_octets as bcder_octets
pub use Rattle.bcder.specs.bcder_primitive as bcder_primitive
pub use Rattle.bcder.specs.bcder_source as bcder_source
pub use Rattle.bcder.specs.bcder_tree as bcder_tree
pub use Rattle.bcder.specs.bcder_values as bcder_values
pub use Rattle.resources_chain.specs as resources_chain
pub use Rattle.bcder.specs as bcder
