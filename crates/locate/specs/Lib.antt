pub mod Reference
pub mod Locate
pub mod Promise
pub mod Corners
pub mod Inner
