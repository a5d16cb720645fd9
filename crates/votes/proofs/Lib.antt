pub mod Best
pub mod Laws
pub mod Row
pub mod Winner
