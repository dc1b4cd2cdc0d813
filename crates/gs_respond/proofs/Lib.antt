pub mod TimeBytes
pub mod Rising
pub mod Taking
pub mod Accounting
pub mod Resting
pub mod Ending
