pub mod Applied
pub mod Amounts
pub mod Lines
pub mod Enough
pub mod Writing
pub mod Showing
pub mod Answering
