pub mod Sample
pub mod Fit
pub mod Inner
