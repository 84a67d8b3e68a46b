pub mod Assigned
pub mod Choice
pub mod Search
pub mod Standing
pub mod Turn
