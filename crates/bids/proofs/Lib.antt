pub mod Applied
pub mod Lent
pub mod Limits
pub mod Rows
pub mod Showing
pub mod Fitting
pub mod Telling
