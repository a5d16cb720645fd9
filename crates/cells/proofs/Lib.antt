pub mod Cells
pub mod Laws
