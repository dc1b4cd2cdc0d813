pub mod Taking
pub mod Weaving
