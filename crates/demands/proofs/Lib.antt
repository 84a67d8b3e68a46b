pub mod Applied
pub mod Surplus
pub mod Demanding
