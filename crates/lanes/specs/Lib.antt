pub mod Walk
pub mod Score
pub mod Inner
