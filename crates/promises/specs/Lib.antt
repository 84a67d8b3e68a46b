-- What the customer is promised, in the customer's order: document 01's three demands and its examples, then the requests of document 02. `Promises` is all of it.
pub mod Demand1
pub mod Demand2
pub mod Demand3Sealed
pub mod Demand3Live
pub mod Text
pub mod Cases
pub mod Reasons
pub mod Zeros
pub mod Floors
pub mod FallingFirst
pub mod Digits
pub mod Gains
pub mod Tables
pub mod Forty
pub mod Promises
pub mod Calls
pub mod Matching
