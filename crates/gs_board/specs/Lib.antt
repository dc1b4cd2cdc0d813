pub mod Ledger
pub mod Entries
pub mod Slips
pub mod Faults
pub mod Torn
pub mod Boards
pub mod inside
