pub mod Repeated
mod ListTexts
mod Ones
mod MultiTrees
mod Relisting
mod Multi
mod Checking
pub mod of_bcder_content
pub mod of_objects_cms
pub mod of_objects_valid
