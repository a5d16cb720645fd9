pub mod Binary32
pub mod Inner
