pub mod Drawing
pub mod Joining
