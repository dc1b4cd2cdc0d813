pub mod Unequal
pub mod Falling
pub mod Holding
pub mod Timely
pub mod Marking
