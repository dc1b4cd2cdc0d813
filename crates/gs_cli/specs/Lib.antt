pub mod Answers
pub mod Reply
pub mod Statuses
pub mod Stops
pub mod Words
