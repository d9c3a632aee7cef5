pub mod Serials
pub mod Orders
pub mod AnyNames
pub mod Named
pub mod Inspected
-- What stands below, for the crates above.
pub use Rattle.certs_basics.specs.bcder as bcder
pub use Rattle.certs_basics.specs.bcder_content as bcder_content
pub use Rattle.certs_basics.specs.bcder_number as bcder_number
pub use Rattle.certs_basics.specs.bcder_primitive as bcder_primitive
pub use Rattle.certs_basics.specs.bcder_source as bcder_source
pub use Rattle.certs_basics.specs.bcder_tree as bcder_tree
pub use Rattle.certs_basics.specs.bcder_values as bcder_values
pub use Rattle.certs_basics.specs.bcder_octets as bcder_octets
pub use Rattle.certs_basics.specs as certs_basics
