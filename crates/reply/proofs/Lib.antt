pub mod Fitting
pub mod Loading
pub mod Locating
pub mod Printed
pub mod Room
pub mod Writing
