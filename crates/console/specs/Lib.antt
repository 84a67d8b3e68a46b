pub mod Orders
pub mod Answers
pub mod Steps
