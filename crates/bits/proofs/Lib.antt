pub mod Between
pub mod Bitlists
pub mod Going
pub mod Letters
pub mod Places
