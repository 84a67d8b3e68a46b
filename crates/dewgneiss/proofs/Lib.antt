pub mod Applied
pub mod Copying
pub mod Lent
pub mod Accepted
pub mod Results
pub mod Back
