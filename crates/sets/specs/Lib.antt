pub mod Count
pub mod Bit
pub mod Sum
pub mod Largest
pub mod Lists
