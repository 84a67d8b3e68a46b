pub mod Applied
pub mod LeastPrices
pub mod Settling
pub mod Reducing
pub mod FallingRounds
pub mod Sealing
pub mod Naming
