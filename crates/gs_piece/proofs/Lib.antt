pub mod Turns
pub mod Clocks
pub mod Quanta
pub mod Blocks
