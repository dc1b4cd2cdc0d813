pub mod Disk
pub mod Format
pub mod Kept
pub mod Restarts
pub mod Slots
pub mod Stampers
pub mod Stores
pub mod Tears
