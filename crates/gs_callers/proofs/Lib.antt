pub mod Spelled
pub mod Taking
pub mod Leaving
pub mod Steps
