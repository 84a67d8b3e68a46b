-- The definitions of document 01, in its order. `sets` has below them what a set of items is, its size, and the largest set that passes a test.
pub mod Sheet
pub mod Demand
pub mod Excess
pub mod Round
pub mod Assignment
pub mod Completion
pub mod Equilibrium
pub mod Closing
pub mod Gains
pub mod FallingFirst
pub mod Reduced
pub mod Reasons
pub mod Former
pub mod Refusal
