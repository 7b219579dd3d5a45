pub mod Splices
pub mod Seams
pub mod Held
pub mod Leaving
pub mod Prices
pub mod Rebuilding
