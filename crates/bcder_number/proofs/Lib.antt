pub mod Orders
pub mod Readings
pub mod Slices
pub mod Writings
pub mod of_bcder_content
pub mod of_bcder_primitive
