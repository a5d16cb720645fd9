pub mod Scan
pub mod Widen
pub mod Bounds
pub mod Inner
