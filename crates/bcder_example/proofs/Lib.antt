pub mod of_bcder_content
pub mod of_bcder_values
