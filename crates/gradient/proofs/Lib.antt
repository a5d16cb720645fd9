pub mod Answers
pub mod Laws
pub mod Squares
pub mod Units
