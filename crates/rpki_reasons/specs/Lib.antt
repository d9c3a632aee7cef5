pub mod Json
pub mod Faults
pub mod Reasons
