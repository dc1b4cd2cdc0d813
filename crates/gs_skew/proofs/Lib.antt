pub mod Extremes
pub mod Quantum
pub mod Window
pub mod Levels
pub mod Bounded
pub mod Worked
pub mod Greatest
pub mod Finding
