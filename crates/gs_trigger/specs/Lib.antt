pub mod Triggers
pub mod Laws
pub mod inside
