pub mod Counts
pub mod Climbing
pub mod Hanging
pub mod Words
