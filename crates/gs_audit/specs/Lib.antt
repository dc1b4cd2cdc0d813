pub mod Verdicts
pub mod NodeVerdicts
pub mod OneNode
pub mod inside
