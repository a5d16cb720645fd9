pub mod Laws
pub mod Sample
pub mod Threshold
