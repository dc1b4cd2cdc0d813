pub mod Seating
pub mod Placing
pub mod Delivering
pub mod Advancing
pub mod Starting
pub mod Reading
pub mod Reporting
pub mod Upkeep
