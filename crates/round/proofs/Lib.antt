pub mod Adding
pub mod Reporting
pub mod Narrowing
