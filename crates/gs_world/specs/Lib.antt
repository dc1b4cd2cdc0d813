pub mod Placed
pub mod Memory
pub mod RunReports
pub mod inside
