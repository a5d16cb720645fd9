pub mod Count
pub mod Front
pub mod Picture
pub mod Tab
pub mod Inner
pub mod Turn
