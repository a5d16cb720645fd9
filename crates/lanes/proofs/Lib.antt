pub mod Walks
pub mod States
