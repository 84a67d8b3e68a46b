pub mod Lent
pub mod Back
pub mod Tables
