pub mod Counts
pub mod Writing
pub mod Lines
pub mod Reading
pub mod Rising
