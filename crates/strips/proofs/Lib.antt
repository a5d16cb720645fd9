pub mod Scores
pub mod Columns
pub mod Turning
pub mod Bands
