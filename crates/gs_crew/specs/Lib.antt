pub mod Adapters
pub mod Roster
pub mod Tasks
