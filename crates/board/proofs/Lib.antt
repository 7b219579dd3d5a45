pub mod Taking
pub mod Turns
pub mod Sittings
pub mod Rebuilds
