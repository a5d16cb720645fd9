pub mod Counts
pub mod Entry
pub mod Keys
pub mod Members
pub mod Sorted
