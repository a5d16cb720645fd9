pub mod Cut
pub mod Numbers
pub mod Prefix
pub mod Shown
