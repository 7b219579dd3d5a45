pub mod Splicing
pub mod Sides
pub mod Postorder
pub mod Ordering
pub mod Passing
pub mod Handing
pub mod Holding
