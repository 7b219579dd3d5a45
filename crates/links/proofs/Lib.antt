pub mod Joins
pub mod Walking
pub mod Loops
