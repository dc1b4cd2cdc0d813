pub mod Views
pub mod Inserted
pub mod ReadBack
pub mod Faults
pub mod Written
