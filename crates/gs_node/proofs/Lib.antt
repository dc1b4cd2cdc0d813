pub mod Starting
pub mod Dropping
pub mod Leaving
pub mod Ending
pub mod Issuing
pub mod Passing
pub mod Completing
