pub mod Waits
pub mod Orders
pub mod Laws
pub mod inside
