pub mod Lent
pub mod Refusal
pub mod Line
pub mod Fit
