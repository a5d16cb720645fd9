pub mod Answers
pub mod Laws
pub mod Planes
pub mod Shown
pub mod Units
