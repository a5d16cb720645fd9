pub mod Checks
pub mod Cornered
pub mod Leading
pub mod Lists
pub mod Promises
pub mod Scored
pub mod Unbeaten
pub mod Working
