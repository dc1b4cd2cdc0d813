pub mod Guarding
pub mod Colouring
pub mod Turning
pub mod Counting
