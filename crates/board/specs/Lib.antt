pub mod Board
pub mod Planes
pub mod Screen
pub mod Inner
