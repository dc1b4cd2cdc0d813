pub mod Closeness
