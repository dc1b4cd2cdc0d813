pub mod Creeping
pub mod Raising
pub mod Telling
