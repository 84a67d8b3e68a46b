pub mod Sealed
pub mod Reduced
pub mod Accepted
