pub mod Level
pub mod Marks
pub mod Rows
pub mod Answers
pub mod Laws
