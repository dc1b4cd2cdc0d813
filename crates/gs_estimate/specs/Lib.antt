pub mod Entries
pub mod EdgeError
