pub mod Ranges
pub mod Prices
pub mod Clips
