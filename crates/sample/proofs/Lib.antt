pub mod Answers
pub mod Fit
pub mod Cells
pub mod Laws
