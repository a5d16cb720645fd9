pub mod Values
pub mod Answer
