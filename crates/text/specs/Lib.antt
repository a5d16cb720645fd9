pub mod Text
pub mod Inner
