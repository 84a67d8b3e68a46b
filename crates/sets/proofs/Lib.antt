-- Cases that tell a wrong definition, then the laws that several proofs cite.
pub mod Applied
pub mod Tests
pub mod Counting
pub mod Sums
pub mod Bits
pub mod Members
pub mod Lowest
pub mod Taking
pub mod Words
pub mod Largest
pub mod Lists
pub mod Filling
pub mod FromFn
