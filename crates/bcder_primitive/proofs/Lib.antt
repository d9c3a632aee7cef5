pub mod Pieces
pub mod Headers
pub mod Compose
pub mod WrittenNumbers
pub mod Booleans
pub mod Numbers
pub mod Primitives
pub mod of_bcder_tree
