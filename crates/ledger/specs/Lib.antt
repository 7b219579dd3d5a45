pub mod Ledger
pub mod Plays
