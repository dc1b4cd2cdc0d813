mod Ceilings
mod Filling
mod Known
pub mod Moments
mod Parts
pub mod Rising
mod Tearing
