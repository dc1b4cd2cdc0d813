pub mod Adapters
pub mod Readings
