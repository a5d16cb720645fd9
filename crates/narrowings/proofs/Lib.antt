pub mod Looking
pub mod Turns
