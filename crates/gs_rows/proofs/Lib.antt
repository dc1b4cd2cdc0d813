pub mod Onward
pub mod Staging
pub mod Fields
pub mod Keeping
pub mod Reports
pub mod Stopping
