pub mod Auction
pub mod Tables
pub mod Calls
pub mod Tidy
pub mod Reading
pub mod Refusals
