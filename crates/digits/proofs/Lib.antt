pub mod Digits
pub mod Table
pub mod Halves
pub mod Stands
pub mod Gives
pub mod Numbers
pub mod Walking
pub mod Room
