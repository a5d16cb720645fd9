pub mod Laws
pub mod Layouts
pub mod Scans
pub mod Widening
