pub mod External
pub mod Beginning
pub mod Running
