pub mod Columns
pub mod Nodes
pub mod Pieces
pub mod Staleness
pub mod Senders
