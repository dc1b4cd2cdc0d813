pub mod Peaks
pub mod Reports
pub mod Tallies
pub mod ReportText
pub mod inside
