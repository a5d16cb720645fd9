pub mod Block
pub mod Gathering
pub mod Clearing
pub mod Laws
pub mod Rows
