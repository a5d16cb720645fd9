pub mod Gradient
pub mod Inner
