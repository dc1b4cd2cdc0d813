pub mod Times
pub mod Laws
pub mod Plays
pub mod inside
