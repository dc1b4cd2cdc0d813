pub mod Keeping
pub mod Owning
pub mod Entering
pub mod Walking
pub mod Comparing
