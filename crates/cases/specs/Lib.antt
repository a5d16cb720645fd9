pub mod Cases
pub mod Maps
