pub mod Sheets
pub mod Steps
