pub mod BidSheet
pub mod Writing
pub mod Close
pub mod Contents
pub mod Steps
pub mod Accepted
