pub mod Lookouts
