pub mod Turning
pub mod Performing
