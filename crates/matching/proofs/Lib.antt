-- A case that tells a wrong definition, then what the proofs of the functions cite, and `Theorems`, what the floors above do.
pub mod Applied
pub mod Holdings
pub mod Crowds
pub mod Steps
pub mod Outcomes
pub mod Largest
pub mod Settling
pub mod Looking
pub mod Excess
pub mod Seating
pub mod Existence
pub mod Decomposition
pub mod Hall
pub mod BothSides
pub mod Wider
pub mod Theorems
