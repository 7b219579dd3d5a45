pub mod Promise
pub mod Sides
