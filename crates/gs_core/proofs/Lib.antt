pub mod Refusing
pub mod Admitting
pub mod Replaying
pub mod Quieting
