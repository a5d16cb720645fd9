pub mod Loop
pub mod Inner
