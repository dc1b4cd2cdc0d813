pub mod Issued
pub mod Lines
pub mod Runs
pub mod Words
pub mod inside
