pub mod Laws
pub mod Fitting
pub mod Same
