pub mod Steps
pub mod Keyed
pub mod Casts
