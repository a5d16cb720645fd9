pub mod Numbers
pub mod Order
pub mod Plain
pub mod Share
pub mod Values
