pub mod Counts
pub mod Passes
pub mod Sifting
