pub mod Search
pub mod Distances
pub mod Tests
pub mod Exact
pub mod Apart
pub mod Leads
pub mod Passes
pub mod Candidate
