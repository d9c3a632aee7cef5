pub mod Contents
pub mod Frames
pub mod Taking
pub mod Again
pub mod Builders
pub mod Making
pub mod Signing
pub mod Lending
