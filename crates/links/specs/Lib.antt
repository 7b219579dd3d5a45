pub mod Links
pub mod Walks
pub mod Made
