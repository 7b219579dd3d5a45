pub mod Writing
pub mod Meanings
pub mod Readings
pub mod Lining
pub mod Lighting
