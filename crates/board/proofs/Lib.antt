pub mod Packed
pub mod Planes
pub mod Sides
pub mod Sums
pub mod Units
