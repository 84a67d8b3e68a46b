pub mod Calls
pub mod Machine
pub mod Agreement
pub mod Explained
pub mod Sheets
