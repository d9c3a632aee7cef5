pub mod Algorithms
pub mod Digesting
pub mod Alike
pub mod Cleared
pub mod Forms
pub mod Reading
pub mod Refusing
-- What stands below, for the crates above.
pub use Rattle.certs_name.specs.bcder as bcder
pub use Rattle.certs_name.specs.bcder_octets as bcder_octets
pub use Rattle.certs_name.specs.bcder_content as bcder_content
pub use Rattle.certs_name.specs.bcder_primitive as bcder_primitive
pub use Rattle.certs_name.specs.bcder_source as bcder_source
pub use Rattle.certs_name.specs.bcder_tree as bcder_tree
pub use Rattle.certs_name.specs.bcder_values as bcder_values
pub use Rattle.certs_name.specs.certs_basics as certs_basics
pub use Rattle.certs_name.specs as certs_name
