pub mod Edges
pub mod Inner
