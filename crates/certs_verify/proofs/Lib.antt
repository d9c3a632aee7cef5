pub mod TestChains
pub mod Chains
pub mod Memories
pub mod Refusals
