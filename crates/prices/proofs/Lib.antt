pub mod Amounts
pub mod Moving
