pub mod Halls
pub mod States
