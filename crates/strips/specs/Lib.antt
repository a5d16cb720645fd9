pub mod Strip
pub mod Inner
